use Rattle.std.proofs.Common.{◌≡◌, ◌-◌, ◌<◌, length, Some}
use Rattle.module_graph.specs.Cycles.{IsWay}
use Rattle.module_graph.specs.Search.{found_at}
use Rattle.module_graph.proofs.cycle.rest_of_cycle.Given as goal

-- each step comes one nearer to the start
abbrev pub invariant-loop-step : goal.invariant-loop-step
invariant-loop-step g l =
    (l.node.0 < length l.g.nodes) × (found_at l.start.found.items l.node.0 ≡ Some (l.start.first.distance - l._step))
    × IsWay l.g.nodes l.start.node l.start.first.edge.to.0 l.rest.items l.node.0
