-- The rule of a board in seven parts: what is listed, the counters, the claims, the states of the edges, the order in
-- which a seat does things, the slots and the tickets. They follow from the rule (`boards_keep_their_parts`).
use Rattle.std.specs.Prelude.{◌≡◌, ◌+◌, ◌<◌, ◌≤◌, ◌↔◌, ℕ, List, length, slice_index, Option, None}
use Rattle.std.specs.declared.sync.Arc.{Arc}
use mathlib.Core.Option.{Option as Maybe, some}
use lib.ListN.{get_elem?}
use Rattle.atomic_table.specs.Table.{State}
use Rattle.serial_pass.specs.declared.plan.PlanEdge.{PlanEdge}
use Rattle.pass_core.specs.declared.published.Published.{Published}
use Rattle.serial_pass.specs.Results.{NodeResult}
use Rattle.ready_counters.specs.declared.view.View.{View}
use Rattle.ready_counters.specs.Views.{nothing, times, tickets_for}
use Rattle.ready_counters.specs.Sums.{sum_below, weights, claims, opens, fills, subtractions, fetches, draws}
use Rattle.ready_counters.specs.Sums.{drawn_numbers, uses}
use Rattle.ready_counters.specs.Edges.{edge_source, edge_target, left_from}
use Rattle.ready_counters.specs.Meaning.{IsFull}

-- Each entry is a node or an edge of the plan, and stands once in all lists of its kind together. The weights add up to
-- 2^32, and a seat without weight has empty lists.
pub record HasEntries (count : ℕ) (edges : List PlanEdge) (views : List View) : Type 0 where
  pub nodes : (id : ℕ) (v : View) → get_elem? views id ≡ some v → (n : ℕ) → 1 ≤ times n v.claimed → n < count
  pub ends : (id : ℕ) (v : View) → get_elem? views id ≡ some v → (e : ℕ)
      → 1 ≤ times e v.opened + times e v.filled + times e v.subtracted + times e v.fetched → e < length edges
  pub claimed_once : (n : ℕ) → claims views n ≤ 1
  pub opened_once : (e : ℕ) → opens views e ≤ 1
  pub filled_once : (e : ℕ) → fills views e ≤ 1
  pub subtracted_once : (e : ℕ) → subtractions views e ≤ 1
  pub fetched_once : (e : ℕ) → fetches views e ≤ 1
  pub weighed : weights views ≡ 4294967296
  pub joined : (id : ℕ) (v : View) → get_elem? views id ≡ some v → v.weight ≡ 0 → v ≡ nothing

-- A counter is 2^64 - 1 exactly where the node is claimed, and else the number of its in-edges that aren't subtracted.
pub record HasCounts (count : ℕ) (edges : List PlanEdge) (words : List ℕ) (views : List View) : Type 0 where
  pub taken : (n : ℕ) → n < count → (slice_index words n ≡ 18446744073709551615) ↔ (1 ≤ claims views n)
  pub free : (n : ℕ) → n < count → claims views n ≡ 0
      → slice_index words n ≡ left_from (subtractions views) 0 edges n

-- No in-edge of a claimed node is left.
abbrev pub HasClaims : ℕ → List PlanEdge → List View → Type 0
HasClaims count edges views =
    (n : ℕ) → n < count → 1 ≤ claims views n → left_from (subtractions views) 0 edges n ≡ 0

-- The state of an edge is 1 exactly where it is open, 2 where it is filled and not fetched, 3 where it is filled and
-- fetched, and else 0.
pub record HasStates (count : ℕ) (edges : List PlanEdge) (words : List ℕ) (views : List View) : Type 0 where
  pub writing : (e : ℕ) → e < length edges → (slice_index words (count + e) ≡ 1) ↔ (1 ≤ opens views e)
  pub full : (e : ℕ) → e < length edges
      → (slice_index words (count + e) ≡ 2) ↔ ((1 ≤ fills views e) × (fetches views e ≡ 0))
  pub reading : (e : ℕ) → e < length edges
      → (slice_index words (count + e) ≡ 3) ↔ ((1 ≤ fills views e) × (1 ≤ fetches views e))
  pub empty : (e : ℕ) → e < length edges
      → (slice_index words (count + e) ≡ 0) ↔ ((opens views e ≡ 0) × (fills views e ≡ 0))

-- Within one seat: what is subtracted is filled; the source of what is open or filled has a ticket; a node with a
-- ticket is claimed, and its in-edges are fetched; the target of what is fetched is claimed.
pub record HasOrder (edges : List PlanEdge) (v : View) : Type 0 where
  pub subtracted : (e : ℕ) → 1 ≤ times e v.subtracted → 1 ≤ times e v.filled
  pub sourced : (e : ℕ) → e < length edges → 1 ≤ times e v.opened + times e v.filled
      → 1 ≤ tickets_for (edge_source edges e) v.tickets
  pub drawn : (n : ℕ) → 1 ≤ tickets_for n v.tickets → 1 ≤ times n v.claimed
  pub gathered : (e : ℕ) → e < length edges → 1 ≤ tickets_for (edge_target edges e) v.tickets → 1 ≤ times e v.fetched
  pub targeted : (e : ℕ) → e < length edges → 1 ≤ times e v.fetched → 1 ≤ times (edge_target edges e) v.claimed

-- The slot of a full edge holds the result of the edge's source, and that of an empty edge holds nothing.
pub record HasSlots {O A : Type 0} (count : ℕ) (edges : List PlanEdge) (result : ℕ → NodeResult O) (words : List ℕ)
    (homes : List (Maybe (Option (Arc (Published O) A)))) : Type 0 where
  pub full : (e : ℕ) → e < length edges → slice_index words (count + e) ≡ 2 → IsFull (result e) (get_elem? homes e)
  pub empty : (e : ℕ) → e < length edges → slice_index words (count + e) ≡ 0 → get_elem? homes e ≡ some (some None)

-- The ticket word is the number of all tickets. No node has two, no number stands on two, and each is below the word.
-- Along an edge they rise.
pub record HasNumbers (count : ℕ) (edges : List PlanEdge) (word : ℕ) (views : List View) : Type 0 where
  pub counted : word ≡ sum_below (draws views) count
  pub once : (n : ℕ) → draws views n ≤ 1
  pub differ : (k : ℕ) → uses views k ≤ 1
  pub below : (k : ℕ) → 1 ≤ uses views k → k < word
  pub rises : (e : ℕ) → e < length edges → 1 ≤ draws views (edge_target edges e)
      → drawn_numbers views (edge_source edges e) < drawn_numbers views (edge_target edges e)

-- The seven parts.
pub record HasParts {O A : Type 0} (count : ℕ) (edges : List PlanEdge) (result : ℕ → NodeResult O)
    (s : State (Option (Arc (Published O) A)) View) : Type 0 where
  pub entries : HasEntries count edges s.views
  pub counters : HasCounts count edges s.words s.views
  pub claims : HasClaims count edges s.views
  pub states : HasStates count edges s.words s.views
  pub order : (id : ℕ) (v : View) → get_elem? s.views id ≡ some v → HasOrder edges v
  pub slots : HasSlots count edges result s.words s.homes
  pub tickets : HasNumbers count edges (slice_index s.words (count + length edges)) s.views
