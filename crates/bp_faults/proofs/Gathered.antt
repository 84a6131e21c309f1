-- Laws of `Gathers`, for the proofs of every crate: there is an outcome, and one alone.
use Rattle.std.proofs.Common.{◌≡◌, ◌∙◌, ◌<◌, ◌⊎◌, ⊎_elim, inl, inr, ◌+◌, ℕ, zero, suc, List, [], ◌∷◌, map, ap}
use Rattle.std.proofs.Common.{sym, subst, refl, arith, true≢false, Result, Ok, Err}
use Rattle.std.specs.Result.{IsOk, is_ok}
use Rattle.std.specs.List.{range_with_len}
use Rattle.std.proofs.Math.Decide.{dec_lt}
use Rattle.std.proofs.lemmas.Bool.{cases_order}
use Rattle.bp_faults.specs.declared.fault.Fault.{Fault}
use Rattle.bp_faults.specs.Order.{Precedes, IsFirstByHeight}

-- Of two numbers with heights one precedes the other, by height and then by number, or they are the same.
pub by_height : (hm m hn n : ℕ) → Dec (hm < hn) → Dec (hn < hm) → Dec (m < n) → Dec (n < m)
    → ((hm < hn) ⊎ ((hm ≡ hn) × (m < n))) ⊎ (((hn < hm) ⊎ ((hn ≡ hm) × (n < m))) ⊎ (m ≡ n))
by_height hm m hn n (yes a) b c d = inl (inl a)
by_height hm m hn n (no a) (yes b) c d = inr (inl (inl b))
by_height hm m hn n (no a) (no b) (yes c) d = inl (inr (omega arith, c))
by_height hm m hn n (no a) (no b) (no c) (yes d) = inr (inl (inr (omega arith, d)))
by_height hm m hn n (no a) (no b) (no c) (no d) = inr (inr (omega arith))

module _ {O : Type 0} where
  values_same : (xs ys : List O) → map {B = Result O Fault} Ok xs ≡ map Ok ys → xs ≡ ys
  values_same [] [] h = refl
  values_same [] (y ∷ ys) h = cc
  values_same (x ∷ xs) [] h = cc
  values_same (x ∷ xs) (y ∷ ys) h =
      let a : x ≡ y = cc in
      let b : map {B = Result O Fault} Ok xs ≡ map Ok ys = cc in
      λ i. a i ∷ values_same xs ys b i

  no_fault : (r : Result O Fault) (fault : Fault) → r ≡ Err fault → IsOk r → ⊥
  no_fault r fault is ok = absurd (true≢false (sym ok ∙ ap is_ok is))

  abbrev first_of : Fault → Result (List O) Fault
  first_of fault = Err fault

  same_fault : (r s : Result O Fault) (e f : Fault) → r ≡ s → r ≡ Err e → s ≡ Err f → first_of e ≡ first_of f
  same_fault r s e f same first second = let pair : e ≡ f = cc in ap first_of pair

  module _ (height : ℕ → ℕ) (count : ℕ) (step : ℕ → Result O Fault) where
    all_ok : (values : List O) (a n : ℕ) → map Ok values ≡ map step (range_with_len a n) → (k : ℕ) → k < n
        → IsOk (step (a + k))
    all_ok values a zero h k lt = absurd (omega arith)
    all_ok [] a (suc n) h k lt = cc
    all_ok (x ∷ xs) a (suc n) h zero lt =
        let e : Ok x ≡ step a = cc in
        let s : a ≡ a + 0 = omega arith in
        ap is_ok (ap step (sym s) ∙ sym e)
    all_ok (x ∷ xs) a (suc n) h (suc k) lt =
        let t : map Ok xs ≡ map step (range_with_len (a + 1) n) = cc in
        let s : (a + 1) + k ≡ a + suc k = omega arith in
        subst (λ y. IsOk (step y)) s (all_ok xs (a + 1) n t k (omega arith))

    not_both : (values : List O) (fault : Fault) (n : ℕ) → map Ok values ≡ map step (range_with_len 0 count)
        → IsFirstByHeight height count step fault n → ⊥
    not_both values fault n all first =
        let s : 0 + n ≡ n = omega arith in
        no_fault (step n) fault first.here (subst (λ y. IsOk (step y)) s (all_ok values 0 count all n first.inside))

module _ {O : Type 0} (height : ℕ → ℕ) (step : ℕ → Result O Fault) where
  -- no item below a number has a fault, or one has the first
  abbrev Searched : ℕ → Type 0
  Searched count =
      ((m : ℕ) → m < count → IsOk (step m)) ⊎ ((fault : Fault) × ((n : ℕ) × IsFirstByHeight height count step fault n))

  -- an item below the next number is the last or below it
  below_next : (P : ℕ → Type 0) (m k : ℕ) → (m < k → P m) → (m ≡ k → P m) → m < suc k → P m
  below_next P m k lower last lt =
      ⊎_elim last (λ apart. ⊎_elim lower (λ above. absurd (omega (arith, lt, above))) apart) (cases_order m k)

  clean : (k : ℕ) → ((m : ℕ) → m < k → IsOk (step m)) → IsOk (step k) → (m : ℕ) → m < suc k → IsOk (step m)
  clean k before here m lt =
      below_next (λ m. IsOk (step m)) m k (before m) (λ same. subst (λ m. IsOk (step m)) (sym same) here) lt

  -- the last item has the first fault, where those that precede it have none
  last_first : (k : ℕ) (fault : Fault) → step k ≡ Err fault → ((m : ℕ) → m < k → Precedes height m k → IsOk (step m))
      → IsFirstByHeight height (suc k) step fault k
  last_first k fault here before = record {
    inside = omega arith;
    here = here;
    first = λ m lt precedes. below_next (λ m. Precedes height m k → IsOk (step m)) m k (before m)
        (λ same precedes. absurd (⊎_elim
        (λ lower. let e = ap height same in omega (arith, lower, e))
        (λ tie. let t = tie.1 in omega (arith, t, same))
        precedes)) lt precedes;
  }

  -- an earlier item keeps the first fault, where the last doesn't precede it
  still_first : (k : ℕ) (fault : Fault) (n : ℕ) → IsFirstByHeight height k step fault n
      → (Precedes height k n → IsOk (step k)) → IsFirstByHeight height (suc k) step fault n
  still_first k fault n first last = record {
    inside = let inside = first.inside in omega (arith, inside);
    here = first.here;
    first = λ m lt precedes. below_next (λ m. Precedes height m n → IsOk (step m)) m k (first.first m)
        (λ same precedes. subst (λ m. IsOk (step m)) (sym same)
        (last (subst (λ m. Precedes height m n) same precedes))) lt precedes;
  }

  more : (k : ℕ) (made : Result O Fault) → step k ≡ made → Searched k → Searched (suc k)
  more k (Ok value) is (inl none) = inl (clean k none (ap is_ok is))
  more k (Ok value) is (inr found) =
      inr (found.0, (found.1.0, still_first k found.0 found.1.0 found.1.1 (λ precedes. ap is_ok is)))
  more k (Err fault) is (inl none) = inr (fault, (k, last_first k fault is (λ m lt precedes. none m lt)))
  more k (Err fault) is (inr found) = by (dec_lt (height k) (height found.1.0))
    where
      before_first : height k < height found.1.0 → (m : ℕ) → m < k → Precedes height m k → IsOk (step m)
      before_first lower m lt precedes =
          found.1.1.first m lt
          (inl (⊎_elim (λ l. omega (arith, l, lower)) (λ tie. let t = tie.0 in omega (arith, t, lower)) precedes))

      not_earlier : (height k < height found.1.0 → ⊥) → Precedes height k found.1.0 → ⊥
      not_earlier higher precedes =
          ⊎_elim higher (λ tie. let t = tie.1 in let inside = found.1.1.inside in omega (arith, t, inside)) precedes

      by : Dec (height k < height found.1.0) → Searched (suc k)
      by (yes lower) = inr (fault, (k, last_first k fault is (before_first lower)))
      by (no higher) =
          inr (
            found.0,
            (found.1.0, still_first k found.0 found.1.0 found.1.1 (λ precedes. absurd (not_earlier higher precedes))),
          )

  searched : (k : ℕ) → Searched k
  searched zero = inl (λ m lt. absurd (omega (arith, lt)))
  searched (suc k) = more k (step k) refl (searched k)

  values_of : (a n : ℕ) → ((k : ℕ) → k < n → IsOk (step (a + k)))
      → (values : List O) × (map Ok values ≡ map step (range_with_len a n))
  values_of a zero ok = ([], refl)
  values_of a (suc n) ok =
      by (step a) refl
      (values_of (a + 1) n (λ k lt. subst (λ m. IsOk (step m)) (omega arith) (ok (suc k) (omega (arith, lt)))))
    where
      at_a : IsOk (step a)
      at_a = subst (λ m. IsOk (step m)) (omega arith) (ok zero (omega arith))

      by : (made : Result O Fault) → step a ≡ made
          → (values : List O) × (map Ok values ≡ map step (range_with_len (a + 1) n))
          → (values : List O) × (map Ok values ≡ map step (range_with_len a (suc n)))
      by (Ok value) is rest = (value ∷ rest.0, λ i. sym is i ∷ rest.1 i)
      by (Err fault) is rest = absurd (true≢false (sym at_a ∙ ap is_ok is))
