-- Which numbers below another a list lacks.
use Rattle.std.proofs.Common.{◌≡◌, ◌≢◌, ◌<◌, ◌≤◌, ◌⊎◌, ℕ, zero, suc, true, false, List, [], ◌∷◌, length, get_or, inl}
use Rattle.std.proofs.Common.{inr, ⊎_elim, refl, sym, ◌∙◌, subst, arith}
use Rattle.std.specs.List.{AllByRecursion, AllPairs, Contains, IsDistinct, list_any}
use Rattle.std.specs.Cmp.{nat_eq_equiv}
use Rattle.std.proofs.Math.Dec.{eqb}
use Rattle.std.proofs.lemmas.Bool.{cases_Bool, cases_eq, eqb-true}
use Rattle.std.proofs.lemmas.Map.Steps.{length-le_from_distinct_below, le-length_from_below}
use Rattle.std.proofs.lemmas.Map.Views.{list_any-from_Contains, Contains-from_any}
use Rattle.bp_faults.proofs.Lists.{all_contained}

-- a number that the list lacks, or it has all
search : (xs : List ℕ) (n : ℕ) → ((q : ℕ) × (q < n) × (list_any (eqb q) xs ≡ false)) ⊎ ((q : ℕ) → q < n → list_any (eqb
    q) xs ≡ true)
search xs zero = inr (λ q lt. absurd (omega arith))
search xs (suc n) = ⊎_elim
    (λ lacks. inl (lacks.0, (let e = lacks.1 in omega arith), lacks.2))
    (λ has. ⊎_elim
    (λ here. inr (λ q lt. ⊎_elim (λ same. subst (λ k. list_any (eqb k) xs ≡ true) (sym same) here) (λ other. has q
    (omega arith)) (cases_eq q n)))
    (λ lacks. inl (n, omega arith, lacks))
    (cases_Bool (list_any (eqb n) xs)))
    (search xs n)

lacking : (xs : List ℕ) (q : ℕ) → list_any (eqb q) xs ≡ false → Contains xs q → ⊥
lacking xs q lacks c = let has = list_any-from_Contains nat_eq_equiv q xs c in let bad : true ≡ false = sym has ∙ lacks
    in cc

-- a list of fewer entries than a number lacks one below it
pub one_lacks : (xs : List ℕ) (n : ℕ) → length xs < n → (q : ℕ) × (q < n) × (Contains xs q → ⊥)
one_lacks xs n few = ⊎_elim
    (λ lacks. (lacks.0, lacks.1, lacking xs lacks.0 lacks.2))
    (λ has. let most = le-length_from_below xs n has in absurd (omega arith))
    (search xs n)

-- a list with all numbers below another has at least as many entries
pub many_where_all : (xs : List ℕ) (n : ℕ) → ((q : ℕ) → q < n → Contains xs q) → n ≤ length xs
many_where_all xs n all = le-length_from_below xs n (λ q lt. list_any-from_Contains nat_eq_equiv q xs (all q lt))

apart_all : (x : ℕ) (xs : List ℕ) → ((j d : ℕ) → j < length xs → x ≢ get_or xs j d) → AllByRecursion (λ y. eqb x y ≡
    false) xs
apart_all x [] h = tt
apart_all x (y ∷ ys) h = (
  ⊎_elim (λ same. absurd (h 0 0 (omega arith) (eqb-true x y same))) (λ differ. differ)
      (cases_Bool (eqb x y)),
  apart_all x ys (λ j d lt. h (suc j) d (omega arith)),
)

pub distinct_all : (xs : List ℕ) → AllPairs (λ m n. m ≢ n) xs → IsDistinct eqb xs
unfolding IsDistinct
distinct_all [] h = tt
distinct_all (x ∷ xs) h = (
  apart_all x xs (λ j d lt. h 0 (suc j) d (omega arith) (omega arith)),
  distinct_all xs (λ i j
      d lt inside. h (suc i) (suc j) d (omega arith) (omega arith)),
)

-- numbers below another that differ are at most as many
pub few_where_distinct : (xs : List ℕ) (n : ℕ) → AllByRecursion (λ x. x < n) xs → AllPairs (λ a b. a ≢ b) xs → length
    xs ≤ n
few_where_distinct xs n below apart = length-le_from_distinct_below xs n (distinct_all xs apart) (λ q any.
    all_contained (λ x. x < n) xs q below (Contains-from_any eqb-true q xs any))

not_first : (n : ℕ) (xs : List ℕ) → (Contains xs n → ⊥) → (j d : ℕ) → j < length xs → n ≢ get_or xs j d
not_first n xs lacks j d lt same = lacks (j, lt, at xs j d lt ∙ sym same)
  where
    at : (ys : List ℕ) (i e : ℕ) → i < length ys → get_or ys i n ≡ get_or ys i e
    at [] i e inside = absurd (omega arith)
    at (y ∷ ys) zero e inside = refl
    at (y ∷ ys) (suc i) e inside = at ys i e (omega arith)

-- such numbers that lack one are fewer
pub fewer_where_one_lacks : (xs : List ℕ) (n q : ℕ) → AllByRecursion (λ x. x < n) xs → AllPairs (λ a b. a ≢ b) xs → q <
    n → (Contains xs q → ⊥) → length xs < n
unfolding IsDistinct
fewer_where_one_lacks xs n q below apart lt lacks =
    let most : length (q ∷ xs) ≤ n = length-le_from_distinct_below (q ∷ xs) n (
      apart_all q xs (not_first q xs lacks),
      distinct_all xs apart,
    )
    (λ k any. all_contained (λ x. x < n) (q ∷ xs) k (lt, below) (Contains-from_any eqb-true k (q ∷ xs) any)) in
    omega (arith, most)
