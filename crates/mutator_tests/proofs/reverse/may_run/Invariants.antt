use Rattle.std.proofs.Common.{◌≡◌, ◌<◌, [], ℕ, length, take}
use Rattle.std.specs.List.{AllByRecursion}
use Rattle.graph_nodes.specs.declared.graph.Node.{Node}
use Rattle.mutator_tests.proofs.reverse.may_run.Given as goal

-- a node of one of some modules has no edge
abbrev pub IsBare : {P : Type 0} → ℕ → Node P → Type 0
IsBare count x = (x.edges ≡ []) × (x.«module».0 < count)

abbrev pub invariant-loop-node : goal.invariant-loop-node
invariant-loop-node l = AllByRecursion (IsBare (length l.mods)) (take l.node-index l.nodes)
