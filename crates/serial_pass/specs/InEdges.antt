-- Where the in-edges of each node stand in a plan.
use Rattle.std.specs.Prelude.{◌≡◌, ◌≤◌, ◌+◌, ◌==◌, ℕ, suc, List, [], ◌∷◌, length, nat_lt, slice_index, if◌then◌else◌}
use Rattle.std.specs.List.{filter}
use Rattle.serial_pass.specs.declared.plan.Plan.{Plan}
use Rattle.serial_pass.specs.declared.plan.PlanEdge.{PlanEdge}
use Rattle.serial_pass.specs.Plans.{predecessors}

-- The number of edges into a node.
abbrev pub in_degree : Plan → ℕ → ℕ
in_degree plan n = length (predecessors plan.edges n)

-- The numbers of the edges into a node, where the first edge has the number k.
abbrev pub numbers_into : ℕ → List PlanEdge → ℕ → List ℕ
numbers_into k [] n = []
numbers_into k (d ∷ ds) n = if d.to.0 == n then k ∷ numbers_into (suc k) ds n else numbers_into (suc k) ds n

-- How many edges lead to nodes below n: where the in-edges of n begin, in a plan by target.
abbrev pub edges_below : List PlanEdge → ℕ → ℕ
edges_below edges n = length (filter (λ (e : PlanEdge). nat_lt e.to.0 n) edges)

-- A table has for each node where its in-edges begin, and last where all edges end.
pub record AreStarts (plan : Plan) (starts : List ℕ) : Type 0 where
  pub many : length starts ≡ plan.count + 1
  pub begins : (n : ℕ) → n ≤ plan.count → slice_index starts n ≡ edges_below plan.edges n
