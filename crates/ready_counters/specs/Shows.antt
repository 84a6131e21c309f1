-- The core state that a board shows, the kinds of step on a board, and the core step of each.
use Rattle.std.specs.Prelude.{◌≡◌, ◌≢◌, ◌<◌, ◌≤◌, ◌+◌, ◌-◌, ◌==◌, ◌++◌, ◌||◌, ℕ, zero, suc, Bool, true, false, List, []}
use Rattle.std.specs.Prelude.{◌∷◌, map, length, slice_index, slice_set, if◌then◌else◌, Option, Some, None, Result}
use Rattle.std.specs.List.{range_with_len}
use mathlib.Core.Option.{some}
use lib.ListN.{get_elem?}
use Rattle.atomic_table.specs.Table.{State}
use Rattle.bp_faults.specs.declared.fault.Fault.{Fault}
use Rattle.serial_pass.specs.declared.plan.Plan.{Plan}
use Rattle.pass_core.specs.declared.step.Step.{Step}
use Rattle.pass_core.specs.declared.step.Step.TheVariants.{Claim, Fetch, Fill, Subtract}
use Rattle.pass_core.specs.CoreStates.{CoreState, Allows, after}
use Rattle.serial_pass.specs.Results.{NodeResult}
use Rattle.ready_counters.specs.declared.view.View.{View}
use Rattle.ready_counters.specs.Views.{nothing, one, lighter, together, times, with_claim, with_ticket, with_open}
use Rattle.ready_counters.specs.Views.{with_fill, with_subtract, with_fetch}
use Rattle.ready_counters.specs.Sums.{subtractions, fetches}
use Rattle.ready_counters.specs.Edges.{edge_target, result_at}
use Rattle.ready_counters.specs.Meaning.{claimed_word}

-- A counter of the core, by the word of its node: a taken one stands for 0.
abbrev pub counter_of : ℕ → ℕ
counter_of word = if word == claimed_word then 0 else word

-- What an edge holds, by its word and the result of its source: it is filled where the word is full or read.
abbrev pub held_at : {O : Type 0} → ℕ → NodeResult O → Option (NodeResult O)
held_at word value = if (word == 2) || (word == 3) then Some value else None

-- Whether something was done at all.
abbrev pub was_done : ℕ → Bool
was_done zero = false
was_done (suc k) = true

module _ {O : Type 0} (mean : ℕ → List O → Result O Fault) (plan : Plan) where
  -- The core state that words and views show: counters, claimed nodes and filled edges by the words, and subtracted and
  -- fetched edges by the lists of all views together.
  abbrev pub core_of : List ℕ → List View → CoreState O
  core_of words views = record {
    counters = map (λ n. counter_of (slice_index words n)) (range_with_len 0 plan.count);
    claimed = map (λ n. slice_index words n == claimed_word) (range_with_len 0 plan.count);
    filled = map (λ e. held_at (slice_index words (plan.count + e)) (result_at mean plan e))
        (range_with_len 0 (length plan.edges));
    subtracted = map (λ e. was_done (subtractions views e)) (range_with_len 0 (length plan.edges));
    fetched = map (λ e. was_done (fetches views e)) (range_with_len 0 (length plan.edges));
  }

-- The kinds of step on a board, each with its node, its edge, or the seat that is joined. The last is a load, or an
-- exchange that fails.
pub data BoardStep : Type 0 where
  Claiming : ℕ → BoardStep
  Ticketing : ℕ → BoardStep
  Opening : ℕ → BoardStep
  Filling : ℕ → BoardStep
  Subtracting : ℕ → BoardStep
  Fetching : ℕ → BoardStep
  Splitting : BoardStep
  Joining : ℕ → BoardStep
  Looking : BoardStep

-- The core step of a kind of step.
abbrev pub core_step : BoardStep → Option Step
core_step (Claiming n) = Some (Claim (record { 0 = n }))
core_step (Ticketing n) = None
core_step (Opening e) = None
core_step (Filling e) = Some (Fill e)
core_step (Subtracting e) = Some (Subtract e)
core_step (Fetching e) = Some (Fetch e)
core_step Splitting = None
core_step (Joining other) = None
core_step Looking = None

module _ {S : Type 0} where
  -- A seat that weighs something changes one word and its own view.
  abbrev pub Changes : ℕ → View → View → ℕ → ℕ → State S View → State S View → Type 0
  Changes id v w i x s t = (get_elem? s.views id ≡ some v) × (1 ≤ v.weight)
      × (t.words ≡ slice_set s.words i x) × (t.views ≡ slice_set s.views id w)

  -- A seat whose view is v takes a step of a kind: which word was found, what becomes of it and of the view, and what
  -- the seat must have done before. Slots aren't spoken of, since a core state doesn't depend on them.
  abbrev pub IsStep : Plan → BoardStep → ℕ → View → State S View → State S View → Type 0
  IsStep plan (Claiming n) id v s t = (n < plan.count) × (slice_index s.words n ≡ 0)
      × Changes id v (with_claim v n) n claimed_word s t
  IsStep plan (Ticketing n) id v s t =
      Changes id v (with_ticket v n (slice_index s.words (plan.count + length plan.edges)))
      (plan.count + length plan.edges)
      (slice_index s.words (plan.count + length plan.edges) + 1) s t
  IsStep plan (Opening e) id v s t = (e < length plan.edges) × (slice_index s.words (plan.count + e) ≡ 0)
      × Changes id v (with_open v e) (plan.count + e) 1 s t
  IsStep plan (Filling e) id v s t = (e < length plan.edges) × (1 ≤ times e v.opened)
      × Changes id v (with_fill v e) (plan.count + e) 2 s t
  IsStep plan (Subtracting e) id v s t = (e < length plan.edges) × (1 ≤ times e v.filled) × (times e v.subtracted ≡ 0)
      × Changes id v (with_subtract v e) (edge_target plan.edges e)
      (slice_index s.words (edge_target plan.edges e) - 1) s t
  IsStep plan (Fetching e) id v s t =
      (e < length plan.edges) × (1 ≤ times (edge_target plan.edges e) v.claimed) × (times e v.fetched ≡ 0)
      × Changes id v (with_fetch v e) (plan.count + e) 3 s t
  IsStep plan Splitting id v s t = (get_elem? s.views id ≡ some v) × (t.words ≡ s.words)
      × (t.views ≡ slice_set s.views id (lighter v) ++ one ∷ [])
  IsStep plan (Joining other) id v s t = (w : View) × (get_elem? s.views id ≡ some v) × (other ≢ id)
      × (get_elem? s.views other ≡ some w) × (t.words ≡ s.words)
      × (t.views ≡ slice_set (slice_set s.views id (together v w)) other nothing)
  IsStep plan Looking id v s t = (t.words ≡ s.words) × (t.views ≡ s.views)

module _ {O : Type 0} where
  -- One core state leads to another by a step that is allowed there, or where there is no step they are the same.
  abbrev pub LeadsBy : (ℕ → List O → Result O Fault) → Plan → Option Step → CoreState O → CoreState O → Type 0
  LeadsBy mean plan None m k = k ≡ m
  LeadsBy mean plan (Some step) m k = Allows plan m step × (k ≡ after mean plan m step)
