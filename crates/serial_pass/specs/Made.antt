-- What a pass on one thread has made so far: what `run_serial` keeps. No public contract speaks of it.
use Rattle.std.specs.Prelude.{◌≡◌, ℕ, List, [], ◌∷◌, length, slice_get, Option, Some, None, IsSome, Result, Ok, Err, ⊤}
use Rattle.std.specs.List.{AllByRecursion}
use Rattle.std.specs.Arc.{arc_value}
use Rattle.std.specs.declared.sync.Arc.{Arc}
use Rattle.serial_pass.specs.declared.error.PassError.{PassError}
use Rattle.serial_pass.specs.declared.error.PassError.TheVariants.{At, OutOfMemory}
use Rattle.serial_pass.specs.Results.{NodeResult, Done, Bad, cons_if}

module _ {O A : Type 0} where
  -- What is held in a slot, where something is.
  abbrev pub value_of : Option (Option (Arc O A)) → Option O
  value_of None = None
  value_of (Some None) = None
  value_of (Some (Some shared)) = Some (arc_value shared)

  -- What stands for a node so far.
  abbrev pub made_at : List (Option (Arc O A)) → ℕ → Option O
  made_at made n = value_of (slice_get made n)

  -- What was made is what the results say.
  abbrev pub AreRight : (ℕ → NodeResult O) → List (Option (Arc O A)) → Type 0
  AreRight results made = (m : ℕ) (out : O) → made_at made m ≡ Some out → results m ≡ Done out

-- All of them, where all are there.
abbrev pub all_of : {O : Type 0} → List (Option O) → Option (List O)
all_of [] = Some []
all_of (Some out ∷ rest) = cons_if out (all_of rest)
all_of (None ∷ rest) = None

-- A visit of a node answers its result, or that memory ran out.
abbrev pub AnswersVisit : {O A : Type 0} → ℕ → NodeResult O → Result (Arc O A) PassError → Type 0
AnswersVisit n is (Ok shared) = is ≡ Done (arc_value shared)
AnswersVisit n is (Err (At m fault)) = (m.0 ≡ n) × (is ≡ Bad fault)
AnswersVisit n is (Err OutOfMemory) = ⊤

-- Something was made of the nodes that are done, and what was made is right.
pub record IsMade {O A : Type 0} (results : ℕ
    → NodeResult O) (count : ℕ) (done : List ℕ) (made : List (Option (Arc O A))) : Type 0 where
  pub many : length made ≡ count
  pub filled : AllByRecursion (λ n. IsSome (made_at made n)) done
  pub right : AreRight results made
