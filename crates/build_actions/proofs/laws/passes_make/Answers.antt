use Rattle.build_actions.proofs.Passed.{passes_make}
use Rattle.build_actions.proofs.laws.passes_make.Goals as goal

pub returns : goal.returns
returns c =
    passes_make c.outs_are_many.ensures c.outs_meet_their_equation.ensures c.predecessors_are_targets.ensures
