use Rattle.std.proofs.Common.{subst, sym}
use Rattle.bp_props.specs.Groups.{Ascends}
use Rattle.bp_props.proofs.Indices.{ascends_none}
use Rattle.bp_props.proofs.groups.Groups.empty.Goals as goal

pub invariant_of-result : goal.invariant_of-result
invariant_of-result c = subst Ascends (sym c.new.ensures.items) ascends_none
