use Rattle.std.proofs.Common.{◌∷◌, None, Err, subst}
use Rattle.bp_run.specs.Commands.{ToOutput}
use Rattle.bp_run.specs.Job.{GraphGives}
use Rattle.bp_run.specs.Steps.{MakesPuts, Stopped, stop_of}
use Rattle.bp_run.proofs.Preparing.{modules_refused}
use Rattle.bp_run.proofs.command.graph.prepare_tree.Goals as goal

pub returns-in-Err-clause-prepares : goal.returns-in-Err-clause-prepares
returns-in-Err-clause-prepares g c =
    let words = c.args.words.now in
    let tree = c.args.tree.now in
    let refusal = c.in-Err.refusal in
    let end = c.end_by_refusal.result in
    λ told loaded. modules_refused words.list (GraphGives words) ToOutput told tree loaded (ToOutput None) refusal end
    (subst (λ typed. MakesPuts (GraphGives words typed) (ToOutput None) (Err refusal)) c.deref.ensures.value
    c.in-Err.ensures)
    (subst (λ list. Stopped (list ∷ tree.paths.items) (stop_of refusal) end) c.as_str.ensures
    (subst (λ paths. Stopped (c.as_str.result.now ∷ paths) (stop_of refusal) end) c.deref-in-Err.ensures.value
    c.end_by_refusal.ensures))
