-- Plans of the tests.
use Rattle.std.specs.Prelude.{ℕ, [], ◌∷◌}
use Rattle.serial_pass.specs.declared.plan.Plan.{Plan}
use Rattle.serial_pass.specs.declared.plan.PlanEdge.{PlanEdge}
use Rattle.ready_counters.specs.declared.view.View.{View}
use Rattle.ready_counters.specs.Views.{all_of_it, lighter, one, with_claim, with_fetch, with_filled, with_subtract}
use Rattle.ready_counters.specs.Views.{with_ticket}

-- An edge between two nodes.
abbrev pub between : ℕ → ℕ → PlanEdge
between from to = record { from = record { 0 = from }; to = record { 0 = to } }

-- Two nodes, and two edges from the first to the second.
abbrev pub pair : Plan
pair = record { count = 2; edges = between 0 1 ∷ between 0 1 ∷ [] }

-- A chain of three nodes.
abbrev pub chain : Plan
chain = record { count = 3; edges = between 0 1 ∷ between 1 2 ∷ [] }

-- No node.
abbrev pub no_nodes : Plan
no_nodes = record { count = 0; edges = [] }

-- The view of a seat that visited the first node of the chain, with its ticket.
abbrev pub first_done : ℕ → View
first_done k = with_subtract (with_filled (with_ticket (with_claim (lighter all_of_it) 0) 0 k) 0) 0

-- The view of another seat that visited the second node.
abbrev pub second_done : ℕ → View
second_done k = with_subtract (with_filled (with_ticket (with_fetch (with_claim one 1) 0) 1 k) 1) 1

-- The view of the first seat once it visited the third node too.
abbrev pub third_done : ℕ → ℕ → View
third_done first k = with_ticket (with_fetch (with_claim (first_done first) 2) 1) 2 k
