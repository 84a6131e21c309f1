-- Nodes sorted by height and number stand in serial order.
use Rattle.std.proofs.Common.{◌≡◌, ◌≢◌, ◌+◌, ◌-◌, ◌<◌, ◌≤◌, ◌⊎◌, inl, inr, ⊎_elim, ℕ, zero, suc, List, [], ◌∷◌, map}
use Rattle.std.proofs.Common.{length, get_or, refl, ap, arith, ◌∙◌, sym, subst, true, false, eqb, IsPermutation}
use Rattle.std.proofs.Common.{nat_cmp}
use Rattle.std.specs.List.{AllByRecursion, AllPairs, All, Contains, IsDistinct, range_with_len}
use Rattle.std.specs.Ordering.{is_lt, ordering_then}
use Rattle.std.proofs.Common.{Less, Equal}
use Rattle.std.specs.Cmp.{nat_cmp_is}
use Rattle.std.proofs.Math.Decide.{dec_lt}
use mathlib.Core.Logic.{dite}
use Rattle.std.proofs.Math.ListN.{get_or-map}
use Rattle.std.proofs.lemmas.Bool.Decides.{nat_tests}
use Rattle.std.proofs.lemmas.List.{length-map}
use Rattle.std.proofs.lemmas.List.Elements.{recursion_from_All, All-from_recursion}
use Rattle.std.proofs.lemmas.List.FromFn.{get_or-range_with_len, length-range_with_len}
use Rattle.std.proofs.lemmas.List.Sorted.{IsPermutation-map, All-permutation, Contains-permutation}
use Rattle.std.proofs.lemmas.Map.Keys.{IsDistinct-IsPermutation, apart_from_distinct}
use Rattle.bp_faults.specs.declared.ids.NodeId.{NodeId}
use Rattle.serial_pass.specs.declared.plan.Plan.{Plan}
use Rattle.serial_pass.specs.Heights.{height, IsBefore}
use Rattle.serial_pass.specs.Inside.{ranked_node}
use Rattle.serial_pass.specs.Orders.{numbers, HasEachOnce, IsSerial}

-- what holds of neighbours and goes on holds of each pair
far : {X : Type 0} (R : X → X → Type 0) → ((x y z : X) → R x y → R y z → R x z) → (xs : List X)
    → ((k : ℕ) (d : X) → k + 1 < length xs → R (get_or xs k d) (get_or xs (k + 1) d))
    → (i n : ℕ) (d : X) → i + suc n < length xs → R (get_or xs i d) (get_or xs (i + suc n) d)
far R trans xs near i zero d lt = let h = near i d (omega arith) in h
far R trans xs near i (suc n) d lt =
    let next : (i + suc n) + 1 ≡ i + suc (suc n) = omega arith in
    trans (get_or xs i d) (get_or xs (i + suc n) d) (get_or xs (i + suc (suc n)) d)
    (far R trans xs near i n d (omega arith))
    (subst (λ k. R (get_or xs (i + suc n) d) (get_or xs k d)) next (near (i + suc n) d (omega arith)))

pub pairs_from_near : {X : Type 0} (R : X → X → Type 0) → ((x y z : X) → R x y → R y z → R x z) → (xs : List X)
    → ((k : ℕ) (d : X) → k + 1 < length xs → R (get_or xs k d) (get_or xs (k + 1) d)) → AllPairs R xs
pairs_from_near R trans xs near i j d lt lj =
    let there : i + suc (j - suc i) ≡ j = omega arith in
    subst (λ k. R (get_or xs i d) (get_or xs k d)) there (far R trans xs near i (j - suc i) d (omega arith))

-- by height, then by number, equal or not
abbrev Before : ℕ × NodeId → ℕ × NodeId → Type 0
Before x y = (x.0 < y.0) ⊎ ((x.0 ≡ y.0) × (x.1.0 ≤ y.1.0))

before_trans : (x y z : ℕ × NodeId) → Before x y → Before y z → Before x z
before_trans x y z a b =
    ⊎_elim (λ p. ⊎_elim (λ q. inl (omega arith)) (λ q. inl (let e = q.0 in omega arith)) b)
    (λ p. ⊎_elim (λ q. inl (let e = p.0 in omega arith))
    (λ q. inr (p.0 ∙ q.0, let e = p.1 in let f = q.1 in omega arith)) b) a

by_parts : (a b c d : ℕ) → is_lt (ordering_then (nat_cmp a b) (nat_cmp c d)) ≡ false → (b < a) ⊎ ((b ≡ a) × (d ≤ c))
by_parts a b c d h = dite (dec_lt b a) (λ more. inl more)
    (λ not_more. dite (dec_lt a b)
    (λ less. let first : is_lt (ordering_then (nat_cmp a b) (nat_cmp c d)) ≡ true =
    ap (λ o. is_lt (ordering_then o (nat_cmp c d))) (sym (nat_cmp_is a b Less less)) in
    cc)
    (λ not_less. dite (dec_lt c d)
    (λ fewer. let both : is_lt (ordering_then (nat_cmp a b) (nat_cmp c d)) ≡ true =
    ap (λ o. is_lt (ordering_then o (nat_cmp c d))) (sym (nat_cmp_is a b Equal (omega arith)))
    ∙ ap (λ o. is_lt o) (sym (nat_cmp_is c d Less fewer)) in cc)
    (λ not_fewer. inr (omega arith, omega arith))))

before_from_test : (x y : ℕ × NodeId) → is_lt (ordering_then (nat_cmp y.0 x.0) (nat_cmp y.1.0 x.1.0)) ≡ false
    → Before x y
before_from_test x y h = by_parts y.0 x.0 y.1.0 x.1.0 h

numbers_back : (plan : Plan) (ns : List ℕ) → map (λ (r : ℕ × NodeId). r.1.0) (map (ranked_node plan) ns) ≡ ns
numbers_back plan [] = refl
numbers_back plan (n ∷ ns) = ap (λ (l : List ℕ). n ∷ l) (numbers_back plan ns)

numbers_on : (rs : List (ℕ × NodeId)) → map (λ (r : ℕ × NodeId). r.1.0) rs ≡ numbers (map (λ (r : ℕ × NodeId). r.1) rs)
numbers_on [] = refl
numbers_on (r ∷ rs) = ap (λ (l : List ℕ). r.1.0 ∷ l) (numbers_on rs)

none_equal : (a b n : ℕ) → a < b → AllByRecursion (λ y. eqb a y ≡ false) (range_with_len b n)
none_equal a b zero lt = tt
none_equal a b (suc n) lt = (grind (arith, nat_tests), none_equal a (b + 1) n (omega arith))

range_distinct : (a n : ℕ) → IsDistinct eqb (range_with_len a n)
unfolding IsDistinct
range_distinct a zero = tt
range_distinct a (suc n) = (none_equal a (a + 1) n (omega arith), range_distinct (a + 1) n)

eqb_flips : (x y : ℕ) → eqb x y ≡ eqb y x
eqb_flips x y = grind (arith, nat_tests)

module _ (plan : Plan) (rs : List (ℕ × NodeId))
    (perm : IsPermutation (map (ranked_node plan) (range_with_len 0 plan.count)) rs) where
  perm_numbers : IsPermutation (range_with_len 0 plan.count) (numbers (map (λ (r : ℕ × NodeId). r.1) rs))
  perm_numbers = subst (λ (l : List ℕ). IsPermutation (range_with_len 0 plan.count) l) (numbers_on rs)
      (subst (λ (l : List ℕ). IsPermutation l (map (λ (r : ℕ × NodeId). r.1.0) rs))
      (numbers_back plan (range_with_len 0 plan.count))
      (IsPermutation-map (λ (r : ℕ × NodeId). r.1.0) (map (ranked_node plan) (range_with_len 0 plan.count)) rs perm))

  range_below : All (λ n. n < plan.count) (range_with_len 0 plan.count)
  range_below k d lt =
      let e = get_or-range_with_len 0 plan.count k d (omega (arith, length-range_with_len)) in
      let many = length-range_with_len 0 plan.count in
      omega arith

  range_has : (n : ℕ) → n < plan.count → Contains (range_with_len 0 plan.count) n
  range_has n lt = (n, omega (arith, length-range_with_len), get_or-range_with_len 0 plan.count n n lt ∙ omega arith)

  apart : AllPairs (λ m n. m ≢ n) (numbers (map (λ (r : ℕ × NodeId). r.1) rs))
  apart i j d lt lj same =
      let test = apart_from_distinct eqb (numbers (map (λ (r : ℕ × NodeId). r.1) rs)) i j d
      (IsDistinct-IsPermutation eqb eqb_flips (range_with_len 0 plan.count)
      (numbers (map (λ (r : ℕ × NodeId). r.1) rs)) perm_numbers (range_distinct 0 plan.count)) lt lj in
      grind (arith, nat_tests)

  pub ranked_each_once : HasEachOnce plan (numbers (map (λ (r : ℕ × NodeId). r.1) rs))
  ranked_each_once = record {
    nodes =
        recursion_from_All (λ n. n < plan.count) (numbers (map (λ (r : ℕ × NodeId). r.1) rs))
        (All-permutation (λ n. n < plan.count) (range_with_len 0 plan.count)
        (numbers (map (λ (r : ℕ × NodeId). r.1) rs)) perm_numbers range_below);
    each =
        λ n lt. Contains-permutation (range_with_len 0 plan.count)
        (numbers (map (λ (r : ℕ × NodeId). r.1) rs)) n perm_numbers (range_has n lt);
    once = apart;
  }

  with_heights : (ns : List ℕ)
      → AllByRecursion (λ (r : ℕ × NodeId). r.0 ≡ height plan r.1.0) (map (ranked_node plan) ns)
  with_heights [] = tt
  with_heights (n ∷ ns) = (refl, with_heights ns)

  height_at : (k : ℕ) (r : ℕ × NodeId) → k < length rs → (get_or rs k r).0 ≡ height plan (get_or rs k r).1.0
  height_at k r lt =
      All-permutation (λ (r : ℕ × NodeId). r.0 ≡ height plan r.1.0)
      (map (ranked_node plan) (range_with_len 0 plan.count)) rs perm
      (All-from_recursion (λ (r : ℕ × NodeId). r.0 ≡ height plan r.1.0)
      (map (ranked_node plan) (range_with_len 0 plan.count)) (with_heights (range_with_len 0 plan.count))) k r lt

  number_at : (k : ℕ) (r : ℕ × NodeId)
      → get_or (numbers (map (λ (r : ℕ × NodeId). r.1) rs)) k r.1.0 ≡ (get_or rs k r).1.0
  number_at k r =
      ap (λ (l : List ℕ). get_or l k r.1.0) (sym (numbers_on rs)) ∙ get_or-map (λ (r : ℕ × NodeId). r.1.0) rs k r

  strictly : (x y : ℕ × NodeId) → x.0 ≡ height plan x.1.0 → y.0 ≡ height plan y.1.0 → Before x y → x.1.0 ≢ y.1.0
      → IsBefore plan x.1.0 y.1.0
  strictly x y hx hy before other =
      ⊎_elim (λ lower. inl (omega arith))
      (λ level. inr (let e = level.0 in omega arith, let le = level.1 in omega arith)) before

  at_pair : (i j : ℕ) (r : ℕ × NodeId) → i < length rs → j < length rs → Before (get_or rs i r) (get_or rs j r)
      → get_or (numbers (map (λ (r : ℕ × NodeId). r.1) rs)) i r.1.0
      ≢ get_or (numbers (map (λ (r : ℕ × NodeId). r.1) rs)) j r.1.0
      → IsBefore plan (get_or (numbers (map (λ (r : ℕ × NodeId). r.1) rs)) i r.1.0)
      (get_or (numbers (map (λ (r : ℕ × NodeId). r.1) rs)) j r.1.0)
  at_pair i j r li lj before other =
      subst (λ m. IsBefore plan m (get_or (numbers (map (λ (r : ℕ × NodeId). r.1) rs)) j r.1.0)) (sym (number_at i r))
      (subst (λ n. IsBefore plan (get_or rs i r).1.0 n) (sym (number_at j r))
      (strictly (get_or rs i r) (get_or rs j r) (height_at i r li) (height_at j r lj) before
      (λ same. other (number_at i r ∙ same ∙ sym (number_at j r)))))

  pub ranked_serial : ((k : ℕ) (d : ℕ × NodeId) → 0 ≤ k → k + 1 < length rs → is_lt (ordering_then (nat_cmp (get_or rs
      (k + 1) d).0 (get_or rs k d).0) (nat_cmp (get_or rs (k + 1) d).1.0 (get_or rs k d).1.0)) ≡ false)
      → IsSerial plan (numbers (map (λ (r : ℕ × NodeId). r.1) rs))
  ranked_serial sorted = record {
    each_once = ranked_each_once;
    sorted = λ i j d lt lj.
        let r : ℕ × NodeId = (0, record { 0 = d }) in
        let lr : j < length rs = omega (
          arith,
          length-map (map (λ (r : ℕ × NodeId). r.1) rs) (λ (n : NodeId). n.0),
          length-map rs (λ (r : ℕ × NodeId). r.1),
        ) in
        at_pair i j r (omega arith) lr (pairs_from_near Before before_trans rs
        (λ k d lk. before_from_test (get_or rs k d) (get_or rs (k + 1) d) (sorted k d (omega arith) lk)) i j r lt lr)
        (ranked_each_once.once i j d lt lj);
  }
