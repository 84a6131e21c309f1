use Rattle.std.proofs.Common.{◌<◌, ◌≤◌, take, length, slice_index}
use Rattle.std.specs.List.{AllByRecursion}
use Rattle.serial_pass.specs.declared.plan.PlanEdge.{PlanEdge}
use Rattle.module_graph.specs.Graphs.{edges_of}
use Rattle.module_graph.proofs.settled.settled.Given as goal

-- no edge leads to a lesser number, and those of the nodes below the first lead to greater ones
abbrev pub invariant-loop-n : goal.invariant-loop-n
invariant-loop-n g l =
    (l.first ≤ length l.nodes)
    × AllByRecursion (λ (e : PlanEdge). slice_index l.numbers e.from.0 ≤ slice_index l.numbers e.to.0)
    (edges_of (take l.n l.nodes))
    × AllByRecursion (λ (e : PlanEdge). e.from.0 < l.first
    → slice_index l.numbers e.from.0 < slice_index l.numbers e.to.0) (edges_of (take l.n l.nodes))
