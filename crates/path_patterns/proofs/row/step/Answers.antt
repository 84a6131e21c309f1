use Rattle.path_patterns.proofs.Places.{rest_inside}
use Rattle.path_patterns.proofs.row.step.Goals as goal

pub returns-in_ok-step_parts : goal.returns-in_ok-step_parts
returns-in_ok-step_parts c =
    rest_inside c.args.parts.now c.args.from.at c.args.from.skips c.args.name.now _ _ _ c.if-from-parts.true
    (c.in_ok-skip.ensures c.args.parts.now) c.in_ok-step_parts.ensures
