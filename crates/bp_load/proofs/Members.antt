-- Membership by recursion on the list.
use Rattle.std.proofs.Common.{◌≡◌, ℕ, zero, suc, ◌<◌, ◌⊎◌, inl, inr, List, [], ◌∷◌, length, get_or, arith}
use Rattle.std.specs.List.{Contains}

abbrev pub Has : {X : Type 0} → List X → X → Type 0
Has [] q = ⊥
Has (x ∷ xs) q = (x ≡ q) ⊎ Has xs q

pub has_contained : {X : Type 0} (xs : List X) (q : X) → Contains xs q → Has xs q
has_contained [] q c = absurd (let below = c.1 in omega arith)
has_contained {X} (x ∷ xs) q c = by c.0 c.1 c.2 (has_contained xs q)
  where
    by : (k : ℕ) → k < length (x ∷ xs) → get_or (x ∷ xs) k q ≡ q → (Contains xs q → Has xs q) → Has (x ∷ xs) q
    by zero within is more = inl is
    by (suc k) within is more = inr (more (k, omega arith, is))

pub contained_had : {X : Type 0} (xs : List X) (q : X) → Has xs q → Contains xs q
contained_had [] q h = absurd h
contained_had (x ∷ xs) q (inl e) = (zero, omega arith, e)
contained_had (x ∷ xs) q (inr h) = let c = contained_had xs q h in (suc c.0, (let below = c.1 in omega arith), c.2)
