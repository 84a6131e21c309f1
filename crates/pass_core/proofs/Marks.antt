-- Marked indices and filled slots: how many there are, and what one more changes.
use Rattle.std.proofs.Common.{◌≡◌, ◌<◌, ◌≤◌, ℕ, zero, suc, Bool, true, false, List, [], ◌∷◌, map, length, replicate}
use Rattle.std.proofs.Common.{refl, ap, arith, ◌∙◌, sym, subst, Option, Some, None, ◌⊎◌, inl, inr}
use Rattle.std.specs.Prelude.{slice_get, slice_set, is_some}
use mathlib.Core.Logic.{dite}
use native.Mathlib.Decide.{ℕ_discrete}
use Rattle.std.proofs.lemmas.List.{length-map}
use Rattle.std.proofs.lemmas.Option.{slice_get_within}
use Rattle.pass_core.specs.CoreStates.{IsMarked, IsUnmarked, marks, filled_count}
use Rattle.bp_faults.proofs.Lists.{get_here, get_else}

pub marks_more : (bs : List Bool) (k : ℕ) → IsUnmarked bs k → marks (slice_set bs k true) ≡ suc (marks bs)
marks_more [] k h = cc
marks_more (true ∷ bs) zero h = cc
marks_more (false ∷ bs) zero h = refl
marks_more (true ∷ bs) (suc k) h = ap suc (marks_more bs k h)
marks_more (false ∷ bs) (suc k) h = marks_more bs k h

pub marks_most : (bs : List Bool) → marks bs ≤ length bs
marks_most [] = omega arith
marks_most (true ∷ bs) = let rest = marks_most bs in omega arith
marks_most (false ∷ bs) = let rest = marks_most bs in omega arith

pub marks_full : (bs : List Bool) → length bs ≤ marks bs → (k : ℕ) → k < length bs → IsMarked bs k
marks_full [] h k lt = absurd (omega arith)
marks_full (true ∷ bs) h zero lt = refl
marks_full (true ∷ bs) h (suc k) lt = marks_full bs (omega arith) k (omega arith)
marks_full (false ∷ bs) h k lt = let rest = marks_most bs in absurd (omega arith)

pub full_marks : (bs : List Bool) → ((k : ℕ) → k < length bs → IsMarked bs k) → marks bs ≡ length bs
full_marks [] h = refl
full_marks (true ∷ bs) h = ap suc (full_marks bs (λ k lt. h (suc k) (omega arith)))
full_marks (false ∷ bs) h = let first : Some false ≡ Some true = h 0 (omega arith) in cc

pub marks_none : (n : ℕ) → marks (replicate n false) ≡ 0
marks_none zero = refl
marks_none (suc n) = marks_none n

-- an index is marked or isn't
pub marked_or : (bs : List Bool) (k : ℕ) → k < length bs → (IsMarked bs k) ⊎ (IsUnmarked bs k)
marked_or [] k lt = absurd (omega arith)
marked_or (true ∷ bs) zero lt = inl refl
marked_or (false ∷ bs) zero lt = inr refl
marked_or (b ∷ bs) (suc k) lt = marked_or bs k (omega arith)

pub not_both : (bs : List Bool) (k : ℕ) → IsMarked bs k → IsUnmarked bs k → ⊥
not_both bs k h u = let e : Some true ≡ Some false = sym h ∙ u in cc

pub get_blank : {X : Type 0} (n : ℕ) (x : X) (k : ℕ) (y : X) → slice_get (replicate n x) k ≡ Some y → x ≡ y
get_blank zero x k y h = cc
get_blank (suc n) x zero y h = cc
get_blank (suc n) x (suc k) y h = get_blank n x k y h

-- what is marked stays marked, and what becomes marked is the index or was marked
pub still_marked : (bs : List Bool) (j k : ℕ) → IsMarked bs k → IsMarked (slice_set bs j true) k
still_marked bs j k h = dite (ℕ_discrete k j)
    (λ same. subst (λ x. IsMarked (slice_set bs j true) x) (sym same)
    (get_here bs j true (subst (λ x. x < length bs) same (slice_get_within bs k true h))))
    (λ other. get_else bs j k true other ∙ h)

pub now_marked : (bs : List Bool) (j : ℕ) → IsUnmarked bs j → IsMarked (slice_set bs j true) j
now_marked bs j h = get_here bs j true (slice_get_within bs j false h)

pub marked_before : (bs : List Bool) (j k : ℕ) → IsMarked (slice_set bs j true) k → (k ≡ j) ⊎ (IsMarked bs k)
marked_before bs j k h = dite (ℕ_discrete k j) (λ same. inl same) (λ other. inr (sym (get_else bs j k true other) ∙ h))

pub map_set : {X Y : Type 0} (f : X → Y) (xs : List X) (k : ℕ) (x : X)
    → map f (slice_set xs k x) ≡ slice_set (map f xs) k (f x)
map_set f [] k x = refl
map_set f (y ∷ ys) zero x = refl
map_set f (y ∷ ys) (suc k) x = ap (λ (l : List _). f y ∷ l) (map_set f ys k x)

pub get_mapped : {X Y : Type 0} (f : X → Y) (xs : List X) (k : ℕ) (x : X) → slice_get xs k ≡ Some x
    → slice_get (map f xs) k ≡ Some (f x)
get_mapped f [] k x h = cc
get_mapped f (y ∷ ys) zero x h = let e : y ≡ x = cc in ap (λ z. Some (f z)) e
get_mapped f (y ∷ ys) (suc k) x h = get_mapped f ys k x h

pub fills_none : (X : Type 0) (n : ℕ) → filled_count {X = X} (replicate n None) ≡ 0
fills_none X zero = refl
fills_none X (suc n) = fills_none X n

module _ {X : Type 0} where
  pub filled_or : (xs : List (Option X)) (k : ℕ) → k < length xs
      → ((x : X) × (slice_get xs k ≡ Some (Some x))) ⊎ (slice_get xs k ≡ Some None)
  filled_or [] k lt = absurd (omega arith)
  filled_or (Some x ∷ xs) zero lt = inl (x, refl)
  filled_or (None ∷ xs) zero lt = inr refl
  filled_or (x ∷ xs) (suc k) lt = filled_or xs k (omega arith)

  pub fills_more : (xs : List (Option X)) (k : ℕ) (x : X) → slice_get xs k ≡ Some None
      → filled_count (slice_set xs k (Some x)) ≡ suc (filled_count xs)
  fills_more xs k x h =
      ap marks (map_set is_some xs k (Some x)) ∙ marks_more (map is_some xs) k (get_mapped is_some xs k None h)

  pub fills_most : (xs : List (Option X)) → filled_count xs ≤ length xs
  fills_most xs = let most = marks_most (map is_some xs) in omega (arith, length-map xs is_some)

  filled_there : (xs : List (Option X)) (k : ℕ) → IsMarked (map is_some xs) k
      → ((x : X) × (slice_get xs k ≡ Some (Some x))) ⊎ (slice_get xs k ≡ Some None)
      → (x : X) × (slice_get xs k ≡ Some (Some x))
  filled_there xs k h (inl there) = there
  filled_there xs k h (inr none) = let e : Some false ≡ Some true = sym (get_mapped is_some xs k None none) ∙ h in cc

  pub fills_full : (xs : List (Option X)) → length xs ≤ filled_count xs → (k : ℕ) → k < length xs
      → (x : X) × (slice_get xs k ≡ Some (Some x))
  fills_full xs h k lt =
      filled_there xs k (marks_full (map is_some xs) (omega (arith, length-map xs is_some)) k
      (omega (arith, length-map xs is_some))) (filled_or xs k lt)

  pub full_fills : (xs : List (Option X)) → ((k : ℕ) → k < length xs → (x : X) × (slice_get xs k ≡ Some (Some x)))
      → filled_count xs ≡ length xs
  full_fills xs h =
      full_marks (map is_some xs)
      (λ k lt. let t = h k (omega (arith, length-map xs is_some)) in get_mapped is_some xs k (Some t.0) t.1)
      ∙ length-map xs is_some

  -- what is filled stays filled
  pub still_filled : (xs : List (Option X)) (j k : ℕ) (y x : X) → slice_get xs j ≡ Some None
      → slice_get xs k ≡ Some (Some x) → slice_get (slice_set xs j (Some y)) k ≡ Some (Some x)
  still_filled xs j k y x none h =
      get_else xs j k (Some y)
      (λ same. let e : Some None ≡ Some (Some x) = sym none ∙ ap (slice_get xs) (sym same) ∙ h in cc)
      ∙ h
