use Rattle.std.proofs.Common.{[], map, ap, subst, ◌∙◌}
use Rattle.bp_faults.specs.Answers.{Answers}
use Rattle.bp_load.specs.Trees.{placed_of}
use Rattle.bp_load.specs.Opened.{evaluated_in, values_of}
use Rattle.bp_load.proofs.Bases.{without_base}
use Rattle.bp_load.proofs.evaluating.evaluate_by.Goals as goal

-- the empty scope is no base
pub returns : goal.returns
returns g c =
    let files = map placed_of c.args.files.items in
    subst (Answers values_of c.evaluate_below.result)
    (ap (λ base. evaluated_in base [] files) c.in_ok-none.ensures ∙ without_base [] files) c.evaluate_below.ensures
