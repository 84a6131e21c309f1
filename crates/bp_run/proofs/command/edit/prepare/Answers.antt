use Rattle.std.proofs.Common.{List, ℕ, [], ◌∷◌, Err, subst}
use Rattle.bp_faults.specs.Answers.{Tells}
use Rattle.bp_format.specs.Editing.{EditMeans}
use Rattle.bp_run.specs.Job.{wanted_of}
use Rattle.bp_run.specs.Steps.{Stopped, stop_of}
use Rattle.bp_run.proofs.Preparing.{file_stopped, file_refused}
use Rattle.bp_run.proofs.command.edit.prepare.Goals as goal

pub returns-in-Ok-clause-prepares : goal.returns-in-Ok-clause-prepares
returns-in-Ok-clause-prepares g c =
    let words = c.args.words.now in
    let refusal = c.in-Err-edit_text.refusal in
    file_refused words.file words.out (λ text. EditMeans 0 text (wanted_of words)) _ c.in-Ok.text c.in-Ok.ensures.gives
    refusal c.end_by_refusal.result
    (subst (λ text. Tells {T = List ℕ} {V = List ℕ} (λ made. made) (EditMeans 0 text (wanted_of words)) (Err refusal))
    c.as_str.ensures
    c.in-Err-edit_text.ensures)
    (subst (λ file. Stopped (file ∷ []) (stop_of refusal) c.end_by_refusal.result) c.as_str-in-Err-edit_text.ensures
    c.end_by_refusal.ensures)

pub returns-clause-prepares : goal.returns-clause-prepares
returns-clause-prepares g c =
    let words = c.args.words.now in
    file_stopped words.file words.out (λ text. EditMeans 0 text (wanted_of words)) _ c.in-Err.stop c.end_by_stop.result
    c.in-Err.ensures.gives
    (subst (λ file. Stopped (file ∷ []) c.in-Err.stop c.end_by_stop.result) c.as_str-in-Err.ensures
    c.end_by_stop.ensures)
