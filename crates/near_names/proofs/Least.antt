-- The nearest names, by the least reach.
use Rattle.std.proofs.Common.{◌≡◌, ◌≤◌, min, ℕ, Bool, true, false, ◌&&◌, nat_lt, nat_le, cond, List, [], ◌∷◌}
use Rattle.std.proofs.Common.{◌++◌, length, arith, refl, sym, ◌∙◌}
use Rattle.std.specs.List.{filter, list_all}
use Rattle.std.specs.Str.{chars}
use Rattle.std.proofs.lemmas.Bool.Decides.{nat_tests}
use Rattle.near_names.specs.Nearest.{distance, is_near_at, is_near, reach, is_nearest}
use Rattle.near_names.specs.Least.{least_reach, is_within}

pub least_more : (word : List ℕ) (names : List (List ℕ)) (name : List ℕ)
    → least_reach word (names ++ name ∷ []) ≡ min (least_reach word names) (reach word name)
least_more word [] name = omega arith
least_more word (n ∷ names) name = omega (arith, least_more word names name)

-- a near name is at three edits at most
near_small : (d len : ℕ) → is_near_at d len ≡ true → d ≤ 3
near_small d len e = grind (arith, nat_tests)

-- a name is near where its reach is below that of the names that aren't
tested : (near : Bool) (d : ℕ) → (near ≡ true → d ≤ 3) → (near ≡ nat_lt (cond near d 4) 4) × (cond near d 4 ≤ 4)
tested true d h = let few = h refl in (grind (arith, nat_tests), omega (arith, few))
tested false d h = (refl, omega arith)

near_is : (word name : List ℕ) → (is_near word name ≡ nat_lt (reach word name) 4) × (reach word name ≤ 4)
near_is word name =
    tested (is_near word name) (distance word name) (near_small (distance word name) (length (chars word)))

two_tests : (a b c : ℕ) → (nat_le a b && nat_le a c) ≡ nat_le a (min b c)
two_tests a b c = grind (arith, nat_tests)

all_least : (a : ℕ) → a ≤ 4 → (word : List ℕ) (known : List (List ℕ))
    → list_all (λ other. nat_le a (reach word other)) known ≡ nat_le a (least_reach word known)
all_least a few word [] = grind (arith, nat_tests)
all_least a few word (name ∷ known) =
    (λ i. nat_le a (reach word name) && all_least a few word known i)
    ∙ two_tests a (reach word name) (least_reach word known)

-- what is within the least reach is nearest
pub within_is_nearest : (word : List ℕ) (known : List (List ℕ))
    → filter (is_within word (least_reach word known)) known ≡ filter (is_nearest known word) known
within_is_nearest word known = λ i.
    filter (λ name. sym (near_is word name).0 i
    && sym (all_least (reach word name) (near_is word name).1 word known) i) known
