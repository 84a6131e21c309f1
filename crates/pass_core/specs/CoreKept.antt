-- What every state of a core keeps, and what a core keeps beside it. No public contract speaks of it.
use Rattle.std.specs.Prelude.{◌≡◌, ◌<◌, ◌+◌, ◌==◌, ℕ, Bool, true, false, List, [], ◌∷◌, map, length, slice_get}
use Rattle.std.specs.Prelude.{slice_index, slice_set, Option, Some, Result}
use Rattle.std.specs.Option.{option_map}
use Rattle.bp_faults.specs.declared.fault.Fault.{Fault}
use Rattle.serial_pass.specs.declared.plan.Plan.{Plan}
use Rattle.serial_pass.specs.declared.plan.PlanEdge.{PlanEdge}
use Rattle.pass_core.specs.declared.published.Published.{Published}
use Rattle.serial_pass.specs.Plans.{IsPlan, HasNoCycle}
use Rattle.serial_pass.specs.InEdges.{AreStarts}
use Rattle.serial_pass.specs.Outcomes.{TakesPlan}
use Rattle.serial_pass.specs.Results.{NodeResult, all_outs, node_result}
use Rattle.pass_core.specs.Shown.{published_result}
use Rattle.pass_core.specs.CoreStates.{CoreState, from_of, result_in, IsMarked, IsFilled, VisitWasMade}
use Rattle.pass_core.specs.CoreStates.{IsReachedIn, entries}

-- 1 where it is so, else 0.
abbrev pub one_if : Bool → ℕ
one_if true = 1
one_if false = 0

-- How many of the edges into a node aren't marked.
abbrev pub unmarked_count : List PlanEdge → List Bool → ℕ → ℕ
unmarked_count [] marks n = 0
unmarked_count (d ∷ ds) [] n = 0
unmarked_count (d ∷ ds) (true ∷ bs) n = unmarked_count ds bs n
unmarked_count (d ∷ ds) (false ∷ bs) n = one_if (d.to.0 == n) + unmarked_count ds bs n

-- What holds of every state that is reached.
pub record IsSound {O : Type 0} (mean : ℕ → List O → Result O Fault) (plan : Plan) (s : CoreState O) : Type 0 where
  pub counters_many : length s.counters ≡ plan.count
  pub claimed_many : length s.claimed ≡ plan.count
  pub filled_many : length s.filled ≡ length plan.edges
  pub subtracted_many : length s.subtracted ≡ length plan.edges
  pub fetched_many : length s.fetched ≡ length plan.edges
  pub right : (e : ℕ) (r : NodeResult O) → slice_get s.filled e ≡ Some (Some r)
      → r ≡ node_result mean plan (from_of plan e)
  pub taken : (e : ℕ) → IsMarked s.fetched e → IsFilled s e
  pub counted : (n : ℕ) → n < plan.count → slice_index s.counters n ≡ unmarked_count plan.edges s.subtracted n
  pub awaited : (n : ℕ) → IsMarked s.claimed n → unmarked_count plan.edges s.subtracted n ≡ 0

-- What stands in each slot, as a result where it is published.
abbrev pub shown_in : {O : Type 0} → Option (Published O) → Option (NodeResult O)
shown_in x = option_map published_result x

-- What some edges hold, if each holds a result that is done.
abbrev pub held_outs : {O : Type 0} → List (Option (Published O)) → Option (List O)
held_outs held = all_outs (map (λ h. result_in (Some (shown_in h))) held)

-- The state that the tables of a core show.
abbrev pub state_of : {O : Type 0} → List ℕ → List Bool → List (Option (Published O)) → List Bool → List Bool
    → CoreState O
state_of counters claimed filled subtracted fetched = record {
  counters = counters;
  claimed = claimed;
  filled = map shown_in filled;
  subtracted = subtracted;
  fetched = fetched;
}

-- A core keeps, beside its state, how many in-edges of each node aren't fetched, what was published of each node, and
-- the number of steps.
pub record IsCore {O : Type 0} (mean : ℕ → List O → Result O Fault) (takes : ℕ → ℕ → Type 0) (plan : Plan)
    (starts : List ℕ) (s : CoreState O) (unfetched : List ℕ) (published : List (Option (Published O))) (steps : ℕ)
    : Type 0 where
  pub is_plan : IsPlan plan
  pub free : HasNoCycle plan.edges
  pub takes_plan : TakesPlan takes plan
  pub are_starts : AreStarts plan starts
  pub reached : IsReachedIn mean plan steps s
  pub sound : IsSound mean plan s
  pub unfetched_many : length unfetched ≡ plan.count
  pub unfetched_are : (n : ℕ) → n < plan.count → slice_index unfetched n ≡ unmarked_count plan.edges s.fetched n
  pub published_many : length published ≡ plan.count
  pub right : (n : ℕ) (p : Published O) → slice_get published n ≡ Some (Some p)
      → (published_result p ≡ node_result mean plan n) × VisitWasMade plan s n
  pub visited : (n : ℕ) → VisitWasMade plan s n → (p : Published O) × (slice_get published n ≡ Some (Some p))
  pub counted : steps ≡ entries s

-- A node's result is published where it has fetched its last in-edge, and else nothing changes.
abbrev pub PublishesLast : {O : Type 0} → Type 0 → ℕ → NodeResult O → List (Option (Published O))
    → List (Option (Published O)) → Type 0
PublishesLast {O} Last n r old new =
    (Last → (p : Published O) × (published_result p ≡ r) × (new ≡ slice_set old n (Some p))) × ((Last → ⊥) → new ≡ old)
