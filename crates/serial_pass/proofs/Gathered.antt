-- Gathering what the sources of some edges made, an edge at a time.
use Rattle.std.proofs.Common.{◌≡◌, ◌+◌, ◌<◌, ℕ, suc, List, [], ◌∷◌, ◌++◌, map, length, get_or, take, drop, refl, ap}
use Rattle.std.proofs.Common.{◌∙◌, sym, subst, Option, Some, None}
use Rattle.std.specs.List.{AllByRecursion}
use Rattle.std.specs.declared.sync.Arc.{Arc}
use Rattle.std.proofs.lemmas.Option.{slice_get_read}
use Rattle.std.proofs.lemmas.List.{take_more, map-append, take-append-drop}
use Rattle.std.proofs.lemmas.List.Elements.{All-from_recursion}
use Rattle.std.proofs.Math.Seq.{drop-cons}
use Rattle.serial_pass.specs.declared.plan.PlanEdge.{PlanEdge}
use Rattle.serial_pass.specs.Plans.{sources}
use Rattle.serial_pass.specs.Results.{cons_if}
use Rattle.serial_pass.specs.Made.{made_at, value_of, all_of}

module _ {O : Type 0} where
  pub all_of_cons : (x : O) (r : Option (List O)) (os : List O) → cons_if x r ≡ Some os
      → (rest : List O) × (r ≡ Some rest) × (os ≡ x ∷ rest)
  all_of_cons x None os h = cc
  all_of_cons x (Some rest) os h = (rest, refl, cc)

  all_of_more : (xs : List (Option O)) (os : List O) (o : O) → all_of xs ≡ Some os
      → all_of (xs ++ Some o ∷ []) ≡ Some (os ++ o ∷ [])
  all_of_more [] os o h = let e : [] ≡ os = cc in rw (← e) refl
  all_of_more (None ∷ xs) os o h = cc
  all_of_more (Some x ∷ xs) os o h =
      let t = all_of_cons x (all_of xs) os h in
      ap (cons_if x) (all_of_more xs t.0 o t.1) ∙ sym (ap (λ (l : List O). Some (l ++ o ∷ [])) t.2)

  all_of_stop : (xs ys : List (Option O)) → all_of (xs ++ None ∷ ys) ≡ None
  all_of_stop [] ys = refl
  all_of_stop (None ∷ xs) ys = refl
  all_of_stop (Some x ∷ xs) ys = ap (cons_if x) (all_of_stop xs ys)

  module _ (f : ℕ → Option O) (es : List PlanEdge) (i : ℕ) (d : PlanEdge) (lt : i < length es) where
    pub gathers_more : (os : List O) (o : O) → f (get_or es i d).from.0 ≡ Some o
        → all_of (map f (sources (take i es))) ≡ Some os
        → all_of (map f (sources (take (i + 1) es))) ≡ Some (os ++ o ∷ [])
    gathers_more os o made before =
        rw (
          take_more es i d lt,
          map-append (λ (e : PlanEdge). e.from.0) (take i es) (get_or es i d ∷ []),
          map-append f (sources (take i es)) ((get_or es i d).from.0 ∷ []),
          made,
        )
        (all_of_more (map f (sources (take i es))) os o before)

    pub gathers_none : f (get_or es i d).from.0 ≡ None → all_of (map f (sources es)) ≡ None
    gathers_none missing =
        subst (λ (xs : List PlanEdge). all_of (map f (sources xs)) ≡ None) (take-append-drop i es)
        (rw (
          drop-cons es i d lt,
          map-append (λ (e : PlanEdge). e.from.0) (take i es) (get_or es i d ∷ drop (suc i) es),
          map-append f (sources (take i es)) ((get_or es i d).from.0 ∷ sources (drop (suc i) es)),
          missing,
        )
        (all_of_stop (map f (sources (take i es))) (map f (sources (drop (suc i) es)))))

  pub made_read : {A : Type 0} (made : List (Option (Arc O A))) (es : List PlanEdge) (i : ℕ) (d : PlanEdge)
      (x : Option (Arc O A)) → AllByRecursion (λ (e : PlanEdge). e.from.0 < length made) es → i < length es
      → x ≡ get_or made (get_or es i d).from.0 x → made_at made (get_or es i d).from.0 ≡ value_of (Some x)
  made_read made es i d x below lt is =
      ap value_of (slice_get_read made (length made) (get_or es i d).from.0 x refl
      (All-from_recursion (λ (e : PlanEdge). e.from.0 < length made) es below i d lt) is)
