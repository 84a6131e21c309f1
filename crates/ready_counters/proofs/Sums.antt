-- Sums over all views, where one of them changes, and counts in lists.
use Rattle.std.proofs.Common.{◌≡◌, ◌+◌, ◌<◌, ◌≤◌, ◌++◌, ℕ, zero, suc, List, [], ◌∷◌, set, refl, ap, arith, ◌∙◌, sym}
use mathlib.Core.Logic.{dite}
use native.Mathlib.Decide.{ℕ_discrete}
use Rattle.std.proofs.lemmas.Bool.Decides.{nat_tests}
use mathlib.Core.Option.{some, some-injective, some-ne-none}
use lib.ListN.{get_elem?}
use Rattle.ready_counters.specs.Sums.{total_of, sum_below}
use Rattle.ready_counters.specs.Views.{times, tickets_for, ticket_number, tickets_with}

module _ {V : Type 0} (f : V → ℕ) where
  -- one view is exchanged for another
  pub sum_set : (vs : List V) (id : ℕ) (v w : V) → get_elem? vs id ≡ some v
      → total_of f (set vs id w) + f v ≡ total_of f vs + f w
  sum_set [] id v w e = absurd (some-ne-none v (sym e))
  sum_set (x ∷ xs) zero v w e = let s : f x ≡ f v = ap f (some-injective x v e) in omega arith
  sum_set (x ∷ xs) (suc id) v w e = let h = sum_set xs id v w e in omega arith

  pub sum_same : (vs : List V) (id : ℕ) (v w : V) → get_elem? vs id ≡ some v → f w ≡ f v
      → total_of f (set vs id w) ≡ total_of f vs
  sum_same vs id v w e s = let h = sum_set vs id v w e in omega arith

  -- no view has more than all
  pub sum_at : (vs : List V) (id : ℕ) (v : V) → get_elem? vs id ≡ some v → f v ≤ total_of f vs
  sum_at [] id v e = absurd (some-ne-none v (sym e))
  sum_at (x ∷ xs) zero v e = let s : f x ≡ f v = ap f (some-injective x v e) in omega arith
  sum_at (x ∷ xs) (suc id) v e = let h = sum_at xs id v e in omega arith

  pub sum_snoc : (vs : List V) (w : V) → total_of f (vs ++ w ∷ []) ≡ total_of f vs + f w
  sum_snoc [] w = omega arith
  sum_snoc (x ∷ xs) w = let h = sum_snoc xs w in omega arith

pub total_add : {V : Type 0} (f g : V → ℕ) (vs : List V) → total_of (λ v. f v + g v) vs ≡ total_of f vs + total_of g vs
total_add f g [] = omega arith
total_add f g (x ∷ xs) = let h = total_add f g xs in omega arith

-- where one sum is at most another in each view, and less in one, it is less
pub total_at_most : {V : Type 0} (f g : V → ℕ) (vs : List V)
    → ((id : ℕ) (v : V) → get_elem? vs id ≡ some v → f v ≤ g v) → total_of f vs ≤ total_of g vs
total_at_most f g [] h = omega arith
total_at_most f g (x ∷ xs) h = let a = h 0 x refl in let b = total_at_most f g xs (λ id v e. h (suc id) v e) in
    omega arith

pub total_less : {V : Type 0} (f g : V → ℕ) (vs : List V) (id : ℕ) (v : V)
    → ((id : ℕ) (v : V) → get_elem? vs id ≡ some v → f v ≤ g v) → get_elem? vs id ≡ some v → f v + 1 ≤ g v
    → total_of f vs + 1 ≤ total_of g vs
total_less f g [] id v h e l = absurd (some-ne-none v (sym e))
total_less f g (x ∷ xs) zero v h e l =
    let s = some-injective x v e in let a = ap f s in let c = ap g s in
    let b = total_at_most f g xs (λ id v e. h (suc id) v e) in omega arith
total_less f g (x ∷ xs) (suc id) v h e l = let a = h 0 x refl in
    let b = total_less f g xs id v (λ id v e. h (suc id) v e) e l in omega arith

-- where no view has any of g, and so none of f
pub total_none : {V : Type 0} (f g : V → ℕ) (vs : List V)
    → ((id : ℕ) (v : V) → get_elem? vs id ≡ some v → g v ≡ 0 → f v ≡ 0) → total_of g vs ≡ 0 → total_of f vs ≡ 0
total_none f g [] h z = refl
total_none f g (x ∷ xs) h z = let a = h 0 x refl (omega arith) in
    let b = total_none f g xs (λ id v e. h (suc id) v e) (omega arith) in omega arith

-- where one view has all of g, it has all of f
pub total_sole : {V : Type 0} (f g : V → ℕ) (vs : List V) (id : ℕ) (v : V)
    → ((id : ℕ) (v : V) → get_elem? vs id ≡ some v → g v ≡ 0 → f v ≡ 0) → get_elem? vs id ≡ some v
    → total_of g vs ≡ g v → total_of f vs ≡ f v
total_sole f g [] id v h e z = absurd (some-ne-none v (sym e))
total_sole f g (x ∷ xs) zero v h e z =
    let s = some-injective x v e in let a = ap f s in let c = ap g s in
    let b = total_none f g xs (λ id v e. h (suc id) v e) (omega arith) in omega arith
total_sole f g (x ∷ xs) (suc id) v h e z =
    let l = sum_at g xs id v e in let a = h 0 x refl (omega arith) in
    let b = total_sole f g xs id v (λ id v e. h (suc id) v e) e (omega arith) in omega arith

pub times_here : (x : ℕ) (xs : List ℕ) → times x (x ∷ xs) ≡ 1 + times x xs
times_here x xs = grind (arith, nat_tests)

pub times_else : (x y : ℕ) (xs : List ℕ) → (x ≡ y → ⊥) → times x (y ∷ xs) ≡ times x xs
times_else x y xs ne = grind (arith, nat_tests)

pub times_append : (x : ℕ) (xs ys : List ℕ) → times x (xs ++ ys) ≡ times x xs + times x ys
times_append x [] ys = omega arith
times_append x (y ∷ xs) ys = let h = times_append x xs ys in omega arith

module _ (k : ℕ) (ts : List (ℕ × ℕ)) where
  pub ticket_here : (n : ℕ) → tickets_for n ((n, k) ∷ ts) ≡ 1 + tickets_for n ts
  ticket_here n = grind (arith, nat_tests)

  pub ticket_else : (m n : ℕ) → (m ≡ n → ⊥) → tickets_for m ((n, k) ∷ ts) ≡ tickets_for m ts
  ticket_else m n ne = grind (arith, nat_tests)

  pub number_here : (n : ℕ) → ticket_number n ((n, k) ∷ ts) ≡ k + ticket_number n ts
  number_here n = grind (arith, nat_tests)

  pub number_else : (m n : ℕ) → (m ≡ n → ⊥) → ticket_number m ((n, k) ∷ ts) ≡ ticket_number m ts
  number_else m n ne = grind (arith, nat_tests)

  pub used_here : (n : ℕ) → tickets_with k ((n, k) ∷ ts) ≡ 1 + tickets_with k ts
  used_here n = grind (arith, nat_tests)

  pub used_else : (j n : ℕ) → (j ≡ k → ⊥) → tickets_with j ((n, k) ∷ ts) ≡ tickets_with j ts
  used_else j n ne = grind (arith, nat_tests)

-- a node without a ticket has no number
pub no_number : (n : ℕ) (ts : List (ℕ × ℕ)) → tickets_for n ts ≡ 0 → ticket_number n ts ≡ 0
no_number n [] z = refl
no_number n (t ∷ ts) z =
    let h : tickets_for n ts ≡ 0 → ticket_number n ts ≡ 0 = no_number n ts in grind (arith, nat_tests)

pub tickets_append : (x : ℕ) (xs ys : List (ℕ × ℕ)) → tickets_for x (xs ++ ys) ≡ tickets_for x xs + tickets_for x ys
tickets_append x [] ys = omega arith
tickets_append x (y ∷ xs) ys = let h = tickets_append x xs ys in omega arith

pub number_append : (x : ℕ) (xs ys : List (ℕ × ℕ))
    → ticket_number x (xs ++ ys) ≡ ticket_number x xs + ticket_number x ys
number_append x [] ys = omega arith
number_append x (y ∷ xs) ys = let h = number_append x xs ys in omega arith

pub with_append : (x : ℕ) (xs ys : List (ℕ × ℕ)) → tickets_with x (xs ++ ys) ≡ tickets_with x xs + tickets_with x ys
with_append x [] ys = omega arith
with_append x (y ∷ xs) ys = let h = with_append x xs ys in omega arith

-- sums over the numbers below a bound
pub below_same : (f g : ℕ → ℕ) (n : ℕ) → ((k : ℕ) → k < n → f k ≡ g k) → sum_below f n ≡ sum_below g n
below_same f g zero h = refl
below_same f g (suc n) h = let a = h n (omega arith) in let b = below_same f g n (λ k l. h k (omega arith)) in
    omega arith

pub below_more : (f g : ℕ → ℕ) (n k : ℕ) → k < n → g k ≡ suc (f k) → ((j : ℕ) → (j ≡ k → ⊥) → g j ≡ f j)
    → sum_below g n ≡ suc (sum_below f n)
below_more f g zero k l here else = absurd (omega arith)
below_more f g (suc n) k l here else = dite (ℕ_discrete n k)
    (λ is. let a = below_same g f n (λ j lj. else j (λ e. omega arith)) in
    let b : g n ≡ suc (f n) = ap g is ∙ here ∙ ap (λ x. suc (f x)) (sym is) in omega arith)
    (λ ne. let a = below_more f g n k (omega arith) here else in let b = else n ne in omega arith)

pub below_bound : (f : ℕ → ℕ) (n : ℕ) → ((k : ℕ) → f k ≤ 1) → sum_below f n ≤ n
below_bound f zero h = omega arith
below_bound f (suc n) h = let a = h n in let b = below_bound f n h in omega arith

-- where each is 1
pub below_all : (f : ℕ → ℕ) (n : ℕ) → ((k : ℕ) → k < n → f k ≡ 1) → sum_below f n ≡ n
below_all f zero h = refl
below_all f (suc n) h = let a = h n (omega arith) in let b = below_all f n (λ k l. h k (omega arith)) in omega arith

-- where some below isn't 1, it is less
pub below_short : (f : ℕ → ℕ) (n k : ℕ) → ((j : ℕ) → f j ≤ 1) → k < n → f k ≡ 0 → suc (sum_below f n) ≤ n
below_short f zero k h l z = absurd (omega arith)
below_short f (suc n) k h l z = dite (ℕ_discrete n k)
    (λ is. let a = below_bound f n h in let b : f n ≡ 0 = ap f is ∙ z in omega arith)
    (λ ne. let a = below_short f n k h (omega arith) z in let b = h n in omega arith)
