use Rattle.std.proofs.Common.{◌<◌}
use Rattle.serial_pass.specs.declared.plan.PlanEdge.{PlanEdge}
use Rattle.bp_faults.proofs.Lists.{all_map}
use Rattle.serial_pass.proofs.Predecessors.{all_predecessors}
use Rattle.serial_pass.proofs.laws.predecessors_are_nodes.Goals as goal

pub returns : goal.returns
returns c = λ count edges n ends.
    all_predecessors (λ m k. m < count) edges n
    (all_map (λ (e : PlanEdge). (e.from.0 < count) × (e.to.0 < count)) (λ (e : PlanEdge). e.from.0 < count)
    (λ e h. h.0) edges ends)
