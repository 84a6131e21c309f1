-- Counts in lists.
use Rattle.std.proofs.Common.{◌≡◌, ◌+◌, ◌++◌, ℕ, List, [], ◌∷◌, refl, arith}
use Rattle.std.proofs.lemmas.Bool.Decides.{nat_tests}
use Rattle.ready_counters.specs.Views.{times, tickets_for, ticket_number, tickets_with}

pub times_here : (x : ℕ) (xs : List ℕ) → times x (x ∷ xs) ≡ 1 + times x xs
times_here x xs = grind (arith, nat_tests)

pub times_else : (x y : ℕ) (xs : List ℕ) → (x ≡ y → ⊥) → times x (y ∷ xs) ≡ times x xs
times_else x y xs ne = grind (arith, nat_tests)

pub times_append : (x : ℕ) (xs ys : List ℕ) → times x (xs ++ ys) ≡ times x xs + times x ys
times_append x [] ys = omega arith
times_append x (y ∷ xs) ys = let h = times_append x xs ys in omega arith

module _ (k : ℕ) (ts : List (ℕ × ℕ)) where
  pub ticket_here : (n : ℕ) → tickets_for n ((n, k) ∷ ts) ≡ 1 + tickets_for n ts
  ticket_here n = grind (arith, nat_tests)

  pub ticket_else : (m n : ℕ) → (m ≡ n → ⊥) → tickets_for m ((n, k) ∷ ts) ≡ tickets_for m ts
  ticket_else m n ne = grind (arith, nat_tests)

  pub number_here : (n : ℕ) → ticket_number n ((n, k) ∷ ts) ≡ k + ticket_number n ts
  number_here n = grind (arith, nat_tests)

  pub number_else : (m n : ℕ) → (m ≡ n → ⊥) → ticket_number m ((n, k) ∷ ts) ≡ ticket_number m ts
  number_else m n ne = grind (arith, nat_tests)

  pub used_here : (n : ℕ) → tickets_with k ((n, k) ∷ ts) ≡ 1 + tickets_with k ts
  used_here n = grind (arith, nat_tests)

  pub used_else : (j n : ℕ) → (j ≡ k → ⊥) → tickets_with j ((n, k) ∷ ts) ≡ tickets_with j ts
  used_else j n ne = grind (arith, nat_tests)

-- a node without a ticket has no number
pub no_number : (n : ℕ) (ts : List (ℕ × ℕ)) → tickets_for n ts ≡ 0 → ticket_number n ts ≡ 0
no_number n [] z = refl
no_number n (t ∷ ts) z =
    let h : tickets_for n ts ≡ 0 → ticket_number n ts ≡ 0 = no_number n ts in grind (arith, nat_tests)

pub tickets_append : (x : ℕ) (xs ys : List (ℕ × ℕ)) → tickets_for x (xs ++ ys) ≡ tickets_for x xs + tickets_for x ys
tickets_append x [] ys = omega arith
tickets_append x (y ∷ xs) ys = let h = tickets_append x xs ys in omega arith

pub number_append : (x : ℕ) (xs ys : List (ℕ × ℕ))
    → ticket_number x (xs ++ ys) ≡ ticket_number x xs + ticket_number x ys
number_append x [] ys = omega arith
number_append x (y ∷ xs) ys = let h = number_append x xs ys in omega arith

pub with_append : (x : ℕ) (xs ys : List (ℕ × ℕ)) → tickets_with x (xs ++ ys) ≡ tickets_with x xs + tickets_with x ys
with_append x [] ys = omega arith
with_append x (y ∷ xs) ys = let h = with_append x xs ys in omega arith
