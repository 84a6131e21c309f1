-- Lists of texts of which no two are the same.
use Rattle.std.proofs.Common.{List, [], ◌∷◌}
use Rattle.std.specs.List.{AllByRecursion, flat_map}
use Rattle.bp_faults.proofs.Lists.{all_append, all_map, Apart, apart_append}

module _ {A B : Type 0} (f : A → List B) where
  pub all_flat : (P : B → Type 0) (xs : List A) → AllByRecursion (λ x. AllByRecursion P (f x)) xs
      → AllByRecursion P (flat_map f xs)
  all_flat P [] h = tt
  all_flat P (x ∷ xs) h = all_append P (f x) (flat_map f xs) h.0 (all_flat P xs h.1)

  -- R holds of each item of one list and each of another
  abbrev pub Across : (B → B → Type 0) → A → A → Type 0
  Across R x y = AllByRecursion (λ b. AllByRecursion (R b) (f y)) (f x)

  turned : (R : B → B → Type 0) (bs : List B) (xs : List A)
      → AllByRecursion (λ y. AllByRecursion (λ b. AllByRecursion (R b) (f y)) bs) xs
      → AllByRecursion (λ b. AllByRecursion (R b) (flat_map f xs)) bs
  turned R [] xs h = tt
  turned R (b ∷ bs) xs h = (
    all_flat (R b) xs (all_map (λ y. AllByRecursion (R b) (f y) × AllByRecursion (λ b. AllByRecursion (R b) (f y)) bs)
        (λ y. AllByRecursion (R b) (f y)) (λ y k. k.0) xs h),
    turned R bs xs (all_map (λ y. AllByRecursion (R b) (f y) × AllByRecursion (λ b. AllByRecursion (R b) (f y)) bs)
        (λ y. AllByRecursion (λ b. AllByRecursion (R b) (f y)) bs) (λ y k. k.1) xs h),
  )

  pub apart_flat : (R : B → B → Type 0) (xs : List A) → AllByRecursion (λ x. Apart R (f x)) xs → Apart (Across R) xs
      → Apart R (flat_map f xs)
  apart_flat R [] h k = tt
  apart_flat R (x ∷ xs) h k = apart_append R (f x) (flat_map f xs) h.0 (apart_flat R xs h.1 k.1) (turned R (f x) xs k.0)
