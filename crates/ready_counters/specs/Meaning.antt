-- The rule of a board: what its words and slots are, by what the seats have done. It holds between any two steps.
use Rattle.std.specs.Prelude.{◌≡◌, ◌+◌, ◌<◌, ◌≤◌, ℕ, zero, suc, List, length, slice_index, Option, Some, None, Result}
use Rattle.std.specs.declared.sync.Arc.{Arc}
use Rattle.std.specs.Arc.{arc_value}
use mathlib.Core.Option.{Option as Maybe, some}
use lib.ListN.{get_elem?}
use Rattle.atomic_table.specs.Table.{State}
use Rattle.bp_faults.specs.declared.fault.Fault.{Fault}
use Rattle.serial_pass.specs.declared.plan.Plan.{Plan}
use Rattle.serial_pass.specs.declared.plan.PlanEdge.{PlanEdge}
use Rattle.pass_core.specs.declared.published.Published.{Published}
use Rattle.serial_pass.specs.Results.{NodeResult}
use Rattle.pass_core.specs.Shown.{published_result}
use Rattle.ready_counters.specs.declared.view.View.{View}
use Rattle.ready_counters.specs.Views.{whole, nothing, times, tickets_for}
use Rattle.ready_counters.specs.Sums.{sum_below, weights, claims, opens, fills, subtractions, fetches, draws}
use Rattle.ready_counters.specs.Sums.{drawn_numbers, uses}
use Rattle.ready_counters.specs.Edges.{edge_source, edge_target, result_at, left_from}

-- The word of a node that is claimed: 2^64 - 1.
abbrev pub claimed_word : ℕ
claimed_word = 18446744073709551615

-- A counter is taken where the node is claimed, and else it is the number of in-edges that are left. Of a claimed node
-- none is left.
abbrev pub HasWord : ℕ → ℕ → ℕ → Type 0
HasWord zero word left = word ≡ left
HasWord (suc k) word left = (word ≡ claimed_word) × (left ≡ 0)

-- What one view keeps by itself: whatever it lists is in the plan, a joined seat lists nothing, and one thing was done
-- before another.
pub record IsView (count : ℕ) (edges : List PlanEdge) (v : View) : Type 0 where
  pub idle : v.weight ≡ 0 → v ≡ nothing
  pub nodes : (n : ℕ) → count ≤ n → times n v.claimed ≡ 0
  pub ends : (e : ℕ) → length edges ≤ e → times e v.opened + times e v.filled + times e v.fetched ≡ 0
  pub subtracted : (e : ℕ) → times e v.subtracted ≤ times e v.filled
  pub sourced : (e : ℕ) → e < length edges
      → times e v.opened + times e v.filled ≤ tickets_for (edge_source edges e) v.tickets
  pub drawn : (n : ℕ) → tickets_for n v.tickets ≤ times n v.claimed
  pub gathered : (e : ℕ) → e < length edges → tickets_for (edge_target edges e) v.tickets ≤ times e v.fetched
  pub targeted : (e : ℕ) → e < length edges → times e v.fetched ≤ times (edge_target edges e) v.claimed

-- The counters, by how often each node was claimed and each edge subtracted. No node is claimed twice.
pub record HasCounters (count : ℕ) (edges : List PlanEdge) (counter claimed subtracted : ℕ → ℕ) : Type 0 where
  pub once : (n : ℕ) → claimed n ≤ 1
  pub words : (n : ℕ) → n < count → HasWord (claimed n) (counter n) (left_from subtracted 0 edges n)

-- The ticket word, by how many tickets each node has, their numbers, and how many have each number: their numbers are
-- those below the word, one ticket each, and rise along every edge.
pub record HasTickets (count : ℕ) (edges : List PlanEdge) (word : ℕ) (drawn number used : ℕ → ℕ) : Type 0 where
  pub counted : word ≡ sum_below drawn count
  pub below : (k : ℕ) → k < word → used k ≡ 1
  pub above : (k : ℕ) → word ≤ k → used k ≡ 0
  pub numbered : (n : ℕ) → 1 ≤ drawn n → number n < word
  pub rises : (e : ℕ) → e < length edges → 1 ≤ drawn (edge_target edges e)
      → number (edge_source edges e) < number (edge_target edges e)

-- The words at the start: a counter for each node, and 0 everywhere else.
abbrev pub AreFirst : ℕ → ℕ → List PlanEdge → List ℕ → Type 0
AreFirst count many edges words = (length words ≡ suc (count + many))
    × ((n : ℕ) → n < count → slice_index words n ≡ left_from (λ _. 0) 0 edges n)
    × ((k : ℕ) → count ≤ k → slice_index words k ≡ 0)

module _ {O A : Type 0} where
  -- A full slot has the result.
  abbrev pub IsFull : NodeResult O → Maybe (Maybe (Option (Arc (Published O) A))) → Type 0
  IsFull value home = (shared : Arc (Published O) A) × (home ≡ some (some (Some shared)))
      × (published_result (arc_value shared) ≡ value)

  -- The word and the slot of an edge, by how often it is open, and was filled and fetched, and by the result of its
  -- source: 0 is empty, 1 is written, 2 is full and 3 is read.
  abbrev pub HasEdge : ℕ → ℕ → ℕ → ℕ → Maybe (Maybe (Option (Arc (Published O) A))) → NodeResult O → Type 0
  HasEdge (suc o) f r word home value = word ≡ 1
  HasEdge zero zero r word home value = (word ≡ 0) × (home ≡ some (some None))
  HasEdge zero (suc f) zero word home value = (word ≡ 2) × IsFull value home
  HasEdge zero (suc f) (suc r) word home value = word ≡ 3

  -- The words and slots of all edges. No edge is fetched more often than it is filled.
  pub record HasEdges (many : ℕ) (result : ℕ → NodeResult O) (state : ℕ → ℕ)
      (home : ℕ → Maybe (Maybe (Option (Arc (Published O) A)))) (opened filled fetched : ℕ → ℕ) : Type 0 where
    pub order : (e : ℕ) → fetched e ≤ filled e
    pub words : (e : ℕ) → e < many → HasEdge (opened e) (filled e) (fetched e) (state e) (home e) (result e)

  -- The words are a counter for each node, a state for each edge, and the ticket word. There is a slot for each edge.
  pub record IsBoard (count : ℕ) (edges : List PlanEdge) (result : ℕ → NodeResult O)
      (s : State (Option (Arc (Published O) A)) View) : Type 0 where
    pub many_words : length s.words ≡ suc (count + length edges)
    pub many_slots : length s.homes ≡ length edges
    pub weighed : weights s.views ≡ whole
    pub seats : (id : ℕ) (v : View) → get_elem? s.views id ≡ some v → IsView count edges v
    pub counters : HasCounters count edges (slice_index s.words) (claims s.views) (subtractions s.views)
    pub states : HasEdges (length edges) result (λ e. slice_index s.words (count + e)) (get_elem? s.homes)
        (opens s.views) (fills s.views) (fetches s.views)
    pub tickets : HasTickets count edges (slice_index s.words (count + length edges)) (draws s.views)
        (drawn_numbers s.views) (uses s.views)

-- The rule of a board of a plan, for a visitor that has this meaning.
abbrev pub IsBoardOf : {O A : Type 0} → (ℕ → List O → Result O Fault) → Plan
    → State (Option (Arc (Published O) A)) View → Type 0
IsBoardOf mean plan s = IsBoard plan.count plan.edges (result_at mean plan) s
