use Rattle.std.proofs.Common.{[], map, ap, subst, ◌∙◌}
use Rattle.std.specs.Prelude.{Result}
use Rattle.bp_faults.specs.declared.refusal.Refusal.{Refusal}
use Rattle.bp_faults.specs.Answers.{Answers}
use Rattle.bp_load.specs.declared.opened.Evaluated.{Evaluated}
use Rattle.bp_load.specs.Trees.{placed_of}
use Rattle.bp_load.specs.Inherited.{all_evaluated}
use Rattle.bp_load.specs.Opened.{evaluated_in, values_of}
use Rattle.bp_load.proofs.Bases.{without_base}
use Rattle.bp_load.proofs.opened.evaluate_all.Goals as goal

-- the empty scope is no base

pub returns-in-Ok : goal.returns-in-Ok
returns-in-Ok c =
    let files = map placed_of c.args.files.items in
    subst (λ (r : Result Evaluated Refusal). Answers values_of r (all_evaluated [] files)) c.in-Ok.is
    (subst (Answers values_of c.evaluate_in.result)
    (ap (λ base. evaluated_in base [] files) c.in_ok-none.ensures ∙ without_base [] files) c.evaluate_in.ensures)

pub returns-in-Err : goal.returns-in-Err
returns-in-Err c =
    let files = map placed_of c.args.files.items in
    subst (λ (r : Result Evaluated Refusal). Answers values_of r (all_evaluated [] files)) c.in-Err.is
    (subst (Answers values_of c.evaluate_in.result)
    (ap (λ base. evaluated_in base [] files) c.in_ok-none.ensures ∙ without_base [] files) c.evaluate_in.ensures)
