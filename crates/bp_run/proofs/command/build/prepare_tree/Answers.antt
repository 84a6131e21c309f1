use Rattle.std.proofs.Common.{Option, ◌∷◌, Ok, Err, refl, subst}
use Rattle.std.specs.Prelude.{IfSome}
use Rattle.bp_ports.specs.Files.{Files}
use Rattle.bp_run.specs.Commands.{BuildGoes}
use Rattle.bp_run.specs.Job.{AreJournalLines, BuildGives, IsJournalOfList, config_of}
use Rattle.bp_run.specs.Steps.{MakesPuts, Stopped, stop_of}
use Rattle.bp_run.proofs.Preparing.{build_goes, modules_prepared, modules_refused}
use Rattle.bp_run.proofs.command.build.prepare_tree.Goals as goal

pub returns-in-Ok-clause-prepares : goal.returns-in-Ok-clause-prepares
returns-in-Ok-clause-prepares g c =
    let words = c.args.words.now in
    let tree = c.args.tree.now in
    let goes =
    λ (told : Option Files). BuildGoes words (λ lines. IfSome told (λ files. IsJournalOfList words files lines)) in
    let made = BuildGoes words (AreJournalLines tree.typed.items (config_of words.targets)) in
    let puts = c.in-Ok.puts in
    λ told loaded. modules_prepared words.list (BuildGives words) goes told tree loaded made puts
    (subst (λ typed. MakesPuts (BuildGives words typed) (BuildGoes words (AreJournalLines typed
    (config_of words.targets))) (Ok puts)) c.deref.ensures.value
    c.in-Ok.ensures)
    (λ text at. build_goes words.list (BuildGives words) goes told tree loaded words refl text puts.items at)

pub returns-in-Err-clause-prepares : goal.returns-in-Err-clause-prepares
returns-in-Err-clause-prepares g c =
    let words = c.args.words.now in
    let tree = c.args.tree.now in
    let goes =
    λ (told : Option Files). BuildGoes words (λ lines. IfSome told (λ files. IsJournalOfList words files lines)) in
    let made = BuildGoes words (AreJournalLines tree.typed.items (config_of words.targets)) in
    let refusal = c.in-Err.refusal in
    let end = c.end_by_refusal.result in
    λ told loaded. modules_refused words.list (BuildGives words) goes told tree loaded made refusal end
    (subst (λ typed. MakesPuts (BuildGives words typed) (BuildGoes words (AreJournalLines typed
    (config_of words.targets))) (Err refusal)) c.deref.ensures.value
    c.in-Err.ensures)
    (subst (λ list. Stopped (list ∷ tree.paths.items) (stop_of refusal) end) c.as_str.ensures
    (subst (λ paths. Stopped (c.as_str.result.now ∷ paths) (stop_of refusal) end) c.deref-in-Err.ensures.value
    c.end_by_refusal.ensures))
