-- How marks grow along lists of numbers. No public contract speaks of it.
use Rattle.std.specs.Prelude.{◌≡◌, ◌<◌, ◌≤◌, ◌⊎◌, ◌↔◌, ℕ, Bool, true, false, List, [], map, length, Contains}
use Rattle.std.specs.Prelude.{slice_index_or}
use Rattle.std.specs.List.{AllByRecursion}
use Rattle.graph_picture.specs.declared.variant.Arrow.{Arrow}
use Rattle.graph_picture.specs.declared.variant.Variant.{Variant}
use Rattle.graph_picture.specs.Reach.{StepWalk, mark_at}

-- List n of some lists has the number m. Beyond the lists there is none.
abbrev pub Has : List (List ℕ) → ℕ → ℕ → Type 0
Has lists n m = Contains (slice_index_or lists n []) m

-- The numbers with a property are marked beside those of before. Those that are new stand in front too.
pub record Grows (P : ℕ → Type 0) (old : List Bool) (before : List ℕ) (new : List Bool) (front : List ℕ) : Type 0 where
  pub size : length new ≡ length old
  pub marks : (n : ℕ) → (mark_at new n ≡ true) ↔ ((mark_at old n ≡ true) ⊎ P n)
  pub fresh : (n : ℕ) → Contains front n
      ↔ (Contains before n ⊎ ((mark_at new n ≡ true) × (mark_at old n ≡ false)))

-- The list of some number in front has the number m.
abbrev pub IsNext : List (List ℕ) → List ℕ → ℕ → Type 0
IsNext lists front m = (n : ℕ) × Contains front n × Has lists n m

-- A walk of at most so many steps along the lists leads from one of the starts to n.
abbrev pub IsWithin : List (List ℕ) → List ℕ → ℕ → ℕ → Type 0
IsWithin lists starts depth n = (s : ℕ) × (k : ℕ) × Contains starts s × (k ≤ depth) × StepWalk (Has lists) k s n

-- Marked is what is within so many steps. What is marked and isn't in front has all its next numbers marked.
pub record IsLevel (lists : List (List ℕ)) (starts : List ℕ) (level : ℕ) (marks : List Bool) (front : List ℕ)
    : Type 0 where
  pub size : length marks ≡ length lists
  pub sound : (n : ℕ) → mark_at marks n ≡ true → IsWithin lists starts level n
  pub whole : (n : ℕ) → IsWithin lists starts level n → mark_at marks n ≡ true
  pub marked : (n : ℕ) → Contains front n → mark_at marks n ≡ true
  pub done : (n m : ℕ) → mark_at marks n ≡ true → Has lists n m → Contains front n ⊎ (mark_at marks m ≡ true)

-- Marked is exactly what is within so many steps.
pub record MarkWithin (lists : List (List ℕ)) (starts : List ℕ) (depth : ℕ) (marks : List Bool) : Type 0 where
  pub size : length marks ≡ length lists
  pub exact : (n : ℕ) → (mark_at marks n ≡ true) ↔ IsWithin lists starts depth n

-- The lists turned around: m stands in list n where n stands in list m.
pub record AreTurned (lists back : List (List ℕ)) : Type 0 where
  pub size : length back ≡ length lists
  pub turned : (n m : ℕ) → Has back n m ↔ Has lists m n

-- So many lists, in which there is no number.
pub record AreEmpty (count : ℕ) (lists : List (List ℕ)) : Type 0 where
  pub size : length lists ≡ count
  pub none : AllByRecursion (λ (list : List ℕ). list ≡ []) lists

-- The target of an edge.
abbrev pub target : Arrow → ℕ
target a = a.to

-- The targets of a variant's edges.
abbrev pub targets_of : Variant → List ℕ
targets_of v = map target v.edges

-- The number n was put into the lists of the numbers with a property.
pub record PutsBack (n : ℕ) (P : ℕ → Type 0) (old new : List (List ℕ)) : Type 0 where
  pub size : length new ≡ length old
  pub exact : (x y : ℕ) → Has new x y ↔ (Has old x y ⊎ ((y ≡ n) × P x))

-- The marks of others were set.
pub record Joins (others old new : List Bool) : Type 0 where
  pub size : length new ≡ length old
  pub exact : (n : ℕ) → n < length old → (mark_at new n ≡ true) ↔ ((mark_at old n ≡ true) ⊎ (mark_at others n ≡ true))
