-- What holds of all that is made of each item, and how much that is.
use Rattle.std.proofs.Common.{◌≡◌, ℕ, suc, List, [], ◌∷◌, Result, Ok, Err, length, refl, sym, ap, subst, ◌∙◌}
use Rattle.std.specs.List.{AllByRecursion}
use Rattle.bp_faults.specs.Answers.{then_do}
use Rattle.bp_faults.specs.Phases.{each_in_turn}

module _ {X Y E : Type 0} (made : X → Result Y E) where
  more : Y → Result (List Y) E → Result (List Y) E
  more y rest = then_do rest (λ ys. Ok (y ∷ ys))

  -- what holds of what is made of each holds of all that is made
  module _ (Holds : Y → Type 0) (each : (x : X) (y : Y) → made x ≡ Ok y → Holds y) where
    rest_holds : (y : Y) (rest : Result (List Y) E) (ys : List Y) → Holds y
        → ((zs : List Y) → rest ≡ Ok zs → AllByRecursion Holds zs) → more y rest ≡ Ok ys → AllByRecursion Holds ys
    unfolding more
    rest_holds y (Ok zs) ys h rests is =
        let same : y ∷ zs ≡ ys = cc in subst (AllByRecursion Holds) same (h, rests zs refl)
    rest_holds y (Err e) ys h rests is = cc

    pub all_made : (xs : List X) (ys : List Y) → each_in_turn made xs ≡ Ok ys → AllByRecursion Holds ys
    unfolding more
    all_made [] ys is = let same : [] ≡ ys = cc in subst (AllByRecursion Holds) same tt
    all_made (x ∷ xs) ys is = by (made x) refl (λ zs zs_is. all_made xs zs zs_is) is
      where
        by : (r : Result Y E) → made x ≡ r
            → ((zs : List Y) → each_in_turn made xs ≡ Ok zs → AllByRecursion Holds zs)
            → then_do r (λ y. then_do (each_in_turn made xs) (λ ys. Ok (y ∷ ys))) ≡ Ok ys → AllByRecursion Holds ys
        by (Ok y) x_is rests h = rest_holds y (each_in_turn made xs) ys (each x y x_is) rests h
        by (Err e) x_is rests h = cc

  rest_many : (y : Y) (n : ℕ) (rest : Result (List Y) E) (ys : List Y)
      → ((zs : List Y) → rest ≡ Ok zs → length zs ≡ n) → more y rest ≡ Ok ys → length ys ≡ suc n
  unfolding more
  rest_many y n (Ok zs) ys rests is = let same : y ∷ zs ≡ ys = cc in sym (ap length same) ∙ ap suc (rests zs refl)
  rest_many y n (Err e) ys rests is = cc

  -- as much is made as there is
  pub as_many : (xs : List X) (ys : List Y) → each_in_turn made xs ≡ Ok ys → length ys ≡ length xs
  unfolding more
  as_many [] ys is = let same : [] ≡ ys = cc in sym (ap length same)
  as_many (x ∷ xs) ys is = by (made x) (λ zs zs_is. as_many xs zs zs_is) is
    where
      by : (r : Result Y E) → ((zs : List Y) → each_in_turn made xs ≡ Ok zs → length zs ≡ length xs)
          → then_do r (λ y. then_do (each_in_turn made xs) (λ ys. Ok (y ∷ ys))) ≡ Ok ys → length ys ≡ suc (length xs)
      by (Ok y) rests h = rest_many y (length xs) (each_in_turn made xs) ys rests h
      by (Err e) rests h = cc
