use Rattle.std.proofs.Common.{◌<◌, ℕ}
use Rattle.module_graph.specs.Graphs.{edges_of}
use Rattle.module_graph.specs.Walks.{Returns}
use Rattle.module_graph.proofs.start.find_start.Given as goal

abbrev pub invariant-loop-n : goal.invariant-loop-n
invariant-loop-n g l = (m : ℕ) → m < l.n → Returns (edges_of l.g.nodes) m → ⊥
