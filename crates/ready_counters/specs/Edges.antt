-- The ends of edges, and how many of the edges into a node aren't done.
use Rattle.std.specs.Prelude.{◌≡◌, ◌<◌, ◌≤◌, ◌+◌, ◌==◌, ℕ, zero, suc, List, [], ◌∷◌, map, length, slice_index}
use Rattle.std.specs.Prelude.{if◌then◌else◌, Result}
use Rattle.bp_faults.specs.declared.fault.Fault.{Fault}
use Rattle.serial_pass.specs.declared.plan.Plan.{Plan}
use Rattle.serial_pass.specs.declared.plan.PlanEdge.{PlanEdge}
use Rattle.serial_pass.specs.Plans.{sources}
use Rattle.serial_pass.specs.Results.{NodeResult, node_result}
use Rattle.ready_counters.specs.declared.view.View.{View}
use Rattle.ready_counters.specs.Views.{times}

-- The targets of some edges.
abbrev pub edge_targets : List PlanEdge → List ℕ
edge_targets edges = map (λ (d : PlanEdge). d.to.0) edges

-- The source of the edge of a number.
abbrev pub edge_source : List PlanEdge → ℕ → ℕ
edge_source edges e = slice_index (sources edges) e

-- The target of the edge of a number.
abbrev pub edge_target : List PlanEdge → ℕ → ℕ
edge_target edges e = slice_index (edge_targets edges) e

-- The result of the source of the edge of a number.
abbrev pub result_at : {O : Type 0} → (ℕ → List O → Result O Fault) → Plan → ℕ → NodeResult O
result_at mean plan e = node_result mean plan (edge_source plan.edges e)

-- How many words a board of a plan has: a counter for each node, a state for each edge, and the ticket word.
abbrev pub word_count : Plan → ℕ
word_count plan = suc (plan.count + length plan.edges)

-- A seat has fetched every edge into a node.
abbrev pub HasFetched : List PlanEdge → ℕ → View → Type 0
HasFetched edges n v = (e : ℕ) → e < length edges → edge_target edges e ≡ n → 1 ≤ times e v.fetched

-- 1 where there is none.
abbrev pub lacks : ℕ → ℕ
lacks zero = 1
lacks (suc k) = 0

-- How many edges into a node aren't done, where the first edge has the number k.
abbrev pub left_from : (ℕ → ℕ) → ℕ → List PlanEdge → ℕ → ℕ
left_from done k [] n = 0
left_from done k (e ∷ es) n = (if e.to.0 == n then lacks (done k) else 0) + left_from done (suc k) es n

-- How many edges into a node one seat hasn't subtracted.
abbrev pub left_of : List PlanEdge → View → ℕ → ℕ
left_of edges v n = left_from (λ e. times e v.subtracted) 0 edges n
