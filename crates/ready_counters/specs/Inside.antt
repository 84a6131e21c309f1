-- What the steps of a board tell their seat, and what the board's own functions make. No public contract speaks of it.
use Rattle.std.specs.Prelude.{◌≡◌, ◌<◌, ◌≤◌, ℕ, zero, suc, List, ◌∷◌, length, slice_get, Option, Some, None}
use Rattle.std.specs.declared.sync.Arc.{Arc}
use Rattle.std.specs.Arc.{arc_value}
use Rattle.atomic_table.specs.Table.{Me, rest}
use Rattle.serial_pass.specs.declared.plan.Plan.{Plan}
use Rattle.serial_pass.specs.declared.plan.PlanEdge.{PlanEdge}
use Rattle.pass_core.specs.declared.published.Published.{Published}
use Rattle.serial_pass.specs.Results.{NodeResult}
use Rattle.pass_core.specs.Shown.{published_result}
use Rattle.ready_counters.specs.declared.view.View.{View}
use Rattle.ready_counters.specs.Views.{whole, times, tickets_for, tickets_with, with_claim, with_open, with_fill}
use Rattle.ready_counters.specs.Views.{with_subtract, with_fetch, with_ticket}
use Rattle.ready_counters.specs.Edges.{edge_source, edge_target, left_of}
use Rattle.ready_counters.specs.Meaning.{claimed_word, HasWord}

-- What the number that a claim found says of the seat's own view.
pub record Found (edges : List PlanEdge) (n : ℕ) (v : View) (found : ℕ) : Type 0 where
  pub fresh : (found ≡ claimed_word → ⊥) → times n v.claimed ≡ 0
  pub left : (found ≡ claimed_word → ⊥) → found ≤ left_of edges v n
  pub gone : found ≡ claimed_word → (e : ℕ) → e < length edges → edge_target edges e ≡ n
      → 1 ≤ times (edge_source edges e) v.claimed
      → 1 ≤ times e v.subtracted
  pub exact : v.weight ≡ whole → HasWord (times n v.claimed) found (left_of edges v n)

-- What the number that a subtraction found says of the seat's view after it.
pub record Lowered (edges : List PlanEdge) (e : ℕ) (v : View) (found : ℕ) : Type 0 where
  pub some_left : 1 ≤ found
  pub left : found ≤ suc (left_of edges v (edge_target edges e))
  pub exact : v.weight ≡ whole → found ≡ suc (left_of edges v (edge_target edges e))

module _ {S : Type 0} where
  -- Where 0 was found the node is claimed, and else nothing changes.
  abbrev pub Takes : ℕ → Me S View → ℕ → Me S View → Type 0
  Takes n me zero after = after.0 ≡ with_claim me.0 n
  Takes n me (suc k) after = after.0 ≡ me.0

  -- What a claim tells.
  abbrev pub Claims : List PlanEdge → ℕ → Me S View → ℕ → Me S View → Type 0
  Claims edges n me found after = Takes n me found after × (after.1 ≡ me.1) × Found edges n me.0 found

  -- The node has the ticket of the number found, which is below the number of nodes and on no other ticket of the seat.
  abbrev pub Draws : ℕ → ℕ → Me S View → ℕ → Me S View → Type 0
  Draws count n me found after =
      (after.0 ≡ with_ticket me.0 n found) × (after.1 ≡ me.1) × (found < count) × (tickets_with found me.0.tickets ≡ 0)

  -- Nothing changes, and no two of the seat's tickets have one number or one node.
  abbrev pub Differs : Me S View → Me S View → Type 0
  Differs me after =
      (after.0 ≡ me.0) × (after.1 ≡ me.1) × ((k : ℕ) → tickets_with k me.0.tickets ≤ 1)
      × ((n : ℕ) → tickets_for n me.0.tickets ≤ 1)

  -- What a subtraction tells.
  abbrev pub Subtracts : List PlanEdge → ℕ → Me S View → ℕ → Me S View → Type 0
  Subtracts edges e me found after =
      (after.0 ≡ with_subtract me.0 e) × (after.1 ≡ me.1) × Lowered edges e (with_subtract me.0 e) found

  -- The slot that was taken last goes home.
  abbrev pub Returns : Me S View → Me S View → Type 0
  Returns me after = (after.0 ≡ me.0) × (after.1 ≡ rest me.1)

module _ {O A : Type 0} where
  -- The edge is opened, and its empty slot is out with the seat.
  abbrev pub Opens : ℕ → Me (Option (Arc (Published O) A)) View → Me (Option (Arc (Published O) A)) View → Type 0
  Opens e me after = (after.0 ≡ with_open me.0 e) × (after.1 ≡ (e, None) ∷ me.1)

  -- The edge is filled, and its slot goes home.
  abbrev pub Fills : ℕ → Me (Option (Arc (Published O) A)) View → Me (Option (Arc (Published O) A)) View → Type 0
  Fills e me after = (after.0 ≡ with_fill me.0 e) × (after.1 ≡ rest me.1)

  -- The edge is fetched, and its slot, which has the result, is out with the seat.
  abbrev pub Fetches : ℕ → NodeResult O → Me (Option (Arc (Published O) A)) View
      → Me (Option (Arc (Published O) A)) View → Type 0
  Fetches e value me after = (after.0 ≡ with_fetch me.0 e)
      × ((shared : Arc (Published O) A) × (after.1 ≡ (e, Some shared) ∷ me.1)
      × (published_result (arc_value shared) ≡ value))

-- Each entry is a node, each node stands there once, and after all its predecessors.
abbrev pub IsInOrder : ℕ → List PlanEdge → List ℕ → Type 0
IsInOrder count edges order = ((i n : ℕ) → slice_get order i ≡ Some n → n < count)
    × ((n : ℕ) → n < count → times n order ≡ 1)
    × ((e i j : ℕ) → e < length edges → slice_get order i ≡ Some (edge_source edges e)
    → slice_get order j ≡ Some (edge_target edges e) → i < j)

-- The source of every edge is a node.
abbrev pub BeginInside : Plan → Type 0
BeginInside plan = (e : ℕ) → e < length plan.edges → edge_source plan.edges e < plan.count

-- The target of every edge is a node.
abbrev pub EndInside : Plan → Type 0
EndInside plan = (e : ℕ) → e < length plan.edges → edge_target plan.edges e < plan.count
