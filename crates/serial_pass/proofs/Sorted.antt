-- A plan has exactly one serial order.
use Rattle.std.proofs.Common.{◌≡◌, ◌≢◌, ◌<◌, ◌⊎◌, inl, inr, ⊎_elim, ℕ, zero, suc, List, [], ◌∷◌, length, get_or, refl}
use Rattle.std.proofs.Common.{arith, ◌∙◌, sym, subst}
use Rattle.std.specs.List.{AllByRecursion, AllPairs, Contains}
use Rattle.std.proofs.lemmas.List.Elements.{All-from_recursion, recursion_from_All}
use mathlib.Core.Logic.{dite}
use native.Mathlib.Decide.{ℕ_discrete}
use Rattle.serial_pass.specs.declared.plan.Plan.{Plan}
use Rattle.serial_pass.specs.Heights.{height, IsBefore}
use Rattle.serial_pass.specs.Orders.{IsSerial}
use Rattle.serial_pass.proofs.Unique.{ordered, never_both}
use Rattle.bp_faults.proofs.Lists.{all_map}

contains_none : (m : ℕ) → Contains [] m → ⊥
contains_none m h = let lt = h.1 in omega arith

contains_first : (x : ℕ) (xs : List ℕ) → Contains (x ∷ xs) x
contains_first x xs = (0, omega arith, refl)

contains_later : (x : ℕ) (xs : List ℕ) (m : ℕ) → Contains xs m → Contains (x ∷ xs) m
contains_later x xs m h = (suc h.0, let lt = h.1 in omega arith, h.2)

cases_at : (x : ℕ) (xs : List ℕ) (m k : ℕ) → k < length (x ∷ xs) → get_or (x ∷ xs) k m ≡ m → (x ≡ m) ⊎ Contains xs m
cases_at x xs m zero lt is = inl is
cases_at x xs m (suc k) lt is = inr (k, omega arith, is)

contains_cases : (x : ℕ) (xs : List ℕ) (m : ℕ) → Contains (x ∷ xs) m → (x ≡ m) ⊎ Contains xs m
contains_cases x xs m h = cases_at x xs m h.0 h.1 h.2

by_heights : (ha a hb b hc c : ℕ) → (ha < hb) ⊎ ((ha ≡ hb) × (a < b)) → (hb < hc) ⊎ ((hb ≡ hc) × (b < c))
    → (ha < hc) ⊎ ((ha ≡ hc) × (a < c))
by_heights ha a hb b hc c x y =
    ⊎_elim (λ p. ⊎_elim (λ q. inl (omega arith)) (λ q. inl (let e = q.0 in omega arith)) y)
    (λ p. ⊎_elim (λ q. inl (let e = p.0 in omega arith))
    (λ q. inr (p.0 ∙ q.0, let l = p.1 in let r = q.1 in omega arith)) y) x

module _ (plan : Plan) where
  before_then : (a b c : ℕ) → IsBefore plan a b → IsBefore plan b c → IsBefore plan a c
  before_then a b c x y = by_heights (height plan a) a (height plan b) b (height plan c) c x y

  abbrev Rises : List ℕ → Type 0
  Rises [] = Unit {0}
  Rises (x ∷ xs) = AllByRecursion (IsBefore plan x) xs × Rises xs

  pairs_from_rises : (xs : List ℕ) → Rises xs → AllPairs (IsBefore plan) xs
  pairs_from_rises [] h i j d lt lj = absurd (omega arith)
  pairs_from_rises (x ∷ xs) h zero zero d lt lj = absurd (omega arith)
  pairs_from_rises (x ∷ xs) h zero (suc j) d lt lj = All-from_recursion (IsBefore plan x) xs h.0 j d (omega arith)
  pairs_from_rises (x ∷ xs) h (suc i) zero d lt lj = absurd (omega arith)
  pairs_from_rises (x ∷ xs) h (suc i) (suc j) d lt lj = pairs_from_rises xs h.1 i j d (omega arith) (omega arith)

  rises_from_pairs : (xs : List ℕ) → AllPairs (IsBefore plan) xs → Rises xs
  rises_from_pairs [] h = tt
  rises_from_pairs (x ∷ xs) h = (
    recursion_from_All (IsBefore plan x) xs (λ k d lt. h 0 (suc k) d (omega arith) (omega arith)),
    rises_from_pairs xs (λ i j d lt lj. h (suc i) (suc j) d (omega arith) (omega arith)),
  )

  -- a node put where it belongs
  abbrev put_at : (n x : ℕ) (xs rest : List ℕ) → (IsBefore plan n x) ⊎ ((IsBefore plan x n) ⊎ (n ≡ x)) → List ℕ
  put_at n x xs rest (inl here) = n ∷ x ∷ xs
  put_at n x xs rest (inr (inl later)) = x ∷ rest
  put_at n x xs rest (inr (inr same)) = x ∷ xs

  abbrev put : ℕ → List ℕ → List ℕ
  put n [] = n ∷ []
  put n (x ∷ xs) = put_at n x xs (put n xs) (ordered plan n x)

  abbrev sorted_below : ℕ → List ℕ
  sorted_below zero = []
  sorted_below (suc n) = put n (sorted_below n)

  all_put_at : (P : ℕ → Type 0) (n x : ℕ) (xs rest : List ℕ) (o : (IsBefore plan n x) ⊎ ((IsBefore plan x n) ⊎ (n ≡ x)))
      → P n → P x → AllByRecursion P xs → AllByRecursion P rest → AllByRecursion P (put_at n x xs rest o)
  all_put_at P n x xs rest (inl here) pn px pxs pr = (pn, (px, pxs))
  all_put_at P n x xs rest (inr (inl later)) pn px pxs pr = (px, pr)
  all_put_at P n x xs rest (inr (inr same)) pn px pxs pr = (px, pxs)

  all_put : (P : ℕ → Type 0) (n : ℕ) (xs : List ℕ) → P n → AllByRecursion P xs → AllByRecursion P (put n xs)
  all_put P n [] pn h = (pn, tt)
  all_put P n (x ∷ xs) pn h = all_put_at P n x xs (put n xs) (ordered plan n x) pn h.0 h.1 (all_put P n xs pn h.1)

  rises_put_at : (n x : ℕ) (xs : List ℕ) (o : (IsBefore plan n x) ⊎ ((IsBefore plan x n) ⊎ (n ≡ x))) → Rises (x ∷ xs)
      → Rises (put n xs) → Rises (put_at n x xs (put n xs) o)
  rises_put_at n x xs (inl here) h r =
      ((here, all_map (IsBefore plan x) (IsBefore plan n) (λ m later. before_then n x m here later) xs h.0), h)
  rises_put_at n x xs (inr (inl later)) h r = (all_put (IsBefore plan x) n xs later h.0, r)
  rises_put_at n x xs (inr (inr same)) h r = h

  rises_put : (n : ℕ) (xs : List ℕ) → Rises xs → Rises (put n xs)
  rises_put n [] h = (tt, tt)
  rises_put n (x ∷ xs) h = rises_put_at n x xs (ordered plan n x) h (rises_put n xs h.1)

  has_put_at : (n x : ℕ) (xs rest : List ℕ) (o : (IsBefore plan n x) ⊎ ((IsBefore plan x n) ⊎ (n ≡ x)))
      → Contains rest n → Contains (put_at n x xs rest o) n
  has_put_at n x xs rest (inl here) h = contains_first n (x ∷ xs)
  has_put_at n x xs rest (inr (inl later)) h = contains_later x rest n h
  has_put_at n x xs rest (inr (inr same)) h = subst (λ m. Contains (x ∷ xs) m) (sym same) (contains_first x xs)

  has_put : (n : ℕ) (xs : List ℕ) → Contains (put n xs) n
  has_put n [] = contains_first n []
  has_put n (x ∷ xs) = has_put_at n x xs (put n xs) (ordered plan n x) (has_put n xs)

  keeps_put_at : (n x : ℕ) (xs rest : List ℕ) (o : (IsBefore plan n x) ⊎ ((IsBefore plan x n) ⊎ (n ≡ x))) (m : ℕ)
      → Contains (x ∷ xs) m → (Contains xs m → Contains rest m) → Contains (put_at n x xs rest o) m
  keeps_put_at n x xs rest (inl here) m h later = contains_later n (x ∷ xs) m h
  keeps_put_at n x xs rest (inr (inl up)) m h later =
      ⊎_elim (λ same. subst (λ y. Contains (x ∷ rest) y) same (contains_first x rest))
      (λ c. contains_later x rest m (later c)) (contains_cases x xs m h)
  keeps_put_at n x xs rest (inr (inr same)) m h later = h

  keeps_put : (n : ℕ) (xs : List ℕ) (m : ℕ) → Contains xs m → Contains (put n xs) m
  keeps_put n [] m h = absurd (contains_none m h)
  keeps_put n (x ∷ xs) m h = keeps_put_at n x xs (put n xs) (ordered plan n x) m h (keeps_put n xs m)

  sorted_rises : (n : ℕ) → Rises (sorted_below n)
  sorted_rises zero = tt
  sorted_rises (suc n) = rises_put n (sorted_below n) (sorted_rises n)

  sorted_small : (n : ℕ) → AllByRecursion (λ m. m < n) (sorted_below n)
  sorted_small zero = tt
  sorted_small (suc n) =
      all_put (λ m. m < suc n) n (sorted_below n) (omega arith)
      (all_map (λ m. m < n) (λ m. m < suc n) (λ m h. omega arith) (sorted_below n) (sorted_small n))

  sorted_has : (n m : ℕ) → m < n → Contains (sorted_below n) m
  sorted_has zero m lt = absurd (omega arith)
  sorted_has (suc n) m lt = dite (ℕ_discrete m n)
      (λ same. subst (λ k. Contains (put n (sorted_below n)) k) (sym same) (has_put n (sorted_below n)))
      (λ other. keeps_put n (sorted_below n) m (sorted_has n m (omega arith)))

  -- a serial order
  abbrev pub the_order : List ℕ
  the_order = sorted_below plan.count

  never_same : (m n : ℕ) → IsBefore plan m n → m ≢ n
  never_same m n before same =
      let itself : IsBefore plan n n = subst (λ k. IsBefore plan k n) same before in never_both plan n n itself itself

  pub the_order_is_serial : IsSerial plan the_order
  the_order_is_serial = record {
    each_once = record {
      nodes = sorted_small plan.count;
      each = λ n lt. sorted_has plan.count n lt;
      once =
          λ i j d lt lj. never_same (get_or (sorted_below plan.count) i d) (get_or (sorted_below plan.count) j d)
          (pairs_from_rises (sorted_below plan.count) (sorted_rises plan.count) i j d lt lj);
    };
    sorted = pairs_from_rises (sorted_below plan.count) (sorted_rises plan.count);
  }

  all_has : (x : ℕ) (xs : List ℕ) (m : ℕ) → AllByRecursion (IsBefore plan x) xs → Contains xs m → IsBefore plan x m
  all_has x xs m h c = subst (λ k. IsBefore plan x k) c.2 (All-from_recursion (IsBefore plan x) xs h c.0 m c.1)

  first_of_both : (x y : ℕ) (xs ys : List ℕ) → Rises (x ∷ xs) → Rises (y ∷ ys) → Contains (y ∷ ys) x
      → Contains (x ∷ xs) y → x ≡ y
  first_of_both x y xs ys rx ry cx cy =
      ⊎_elim (λ same. sym same) (λ later. ⊎_elim (λ same. same) (λ after. absurd (never_both plan x y
      (all_has x xs y rx.0 after) (all_has y ys x ry.0 later))) (contains_cases x xs y cy)) (contains_cases y ys x cx)

  same_list : (xs ys : List ℕ) → Rises xs → Rises ys → ((m : ℕ) → Contains xs m → Contains ys m)
      → ((m : ℕ) → Contains ys m → Contains xs m) → xs ≡ ys
  same_list [] [] rx ry f g = refl
  same_list [] (y ∷ ys) rx ry f g = absurd (contains_none y (g y (contains_first y ys)))
  same_list (x ∷ xs) [] rx ry f g = absurd (contains_none x (f x (contains_first x xs)))
  same_list (x ∷ xs) (y ∷ ys) rx ry f g =
      let head = first_of_both x y xs ys rx ry (f x (contains_first x xs)) (g y (contains_first y ys)) in
      let tail = same_list xs ys rx.1 ry.1
      (λ m c. ⊎_elim (λ same. absurd (never_same x m (all_has x xs m rx.0 c) (head ∙ same))) (λ later. later)
      (contains_cases y ys m (f m (contains_later x xs m c))))
      (λ m c. ⊎_elim (λ same. absurd (never_same y m (all_has y ys m ry.0 c) (sym head ∙ same))) (λ later. later)
      (contains_cases x xs m (g m (contains_later y ys m c)))) in
      λ i. head i ∷ tail i

  has_nodes : (xs ys : List ℕ) → IsSerial plan xs → IsSerial plan ys → (m : ℕ) → Contains xs m → Contains ys m
  has_nodes xs ys sx sy m c =
      sy.each_once.each m
      (subst (λ k. k < plan.count) c.2 (All-from_recursion (λ n. n < plan.count) xs sx.each_once.nodes c.0 m c.1))

  -- it is the only one
  pub one_order : (xs ys : List ℕ) → IsSerial plan xs → IsSerial plan ys → xs ≡ ys
  one_order xs ys sx sy =
      same_list xs ys (rises_from_pairs xs sx.sorted) (rises_from_pairs ys sy.sorted) (has_nodes xs ys sx sy)
      (has_nodes ys xs sy sx)
