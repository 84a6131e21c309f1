-- Marks that grow: one number, one list after another, one level after another.
use Rattle.std.proofs.Common.{◌≡◌, ◌∙◌, ◌+◌, ◌<◌, ◌++◌, ◌⊎◌, ◌↔◌, inl, inr, ℕ, zero, suc, Bool, true, false, List, []}
use Rattle.std.proofs.Common.{◌∷◌, length, get_or, take, sym, subst, refl, arith, Contains}
use Rattle.std.proofs.lemmas.List.Elements.{Contains-append_left, Contains-append_right, Contains-append_cases}
use Rattle.bp_faults.proofs.Lists.{take-more}
use Rattle.graph_picture.specs.Growing.{Has, Grows, IsNext}
use Rattle.graph_picture.specs.Reach.{mark_at}

pub contains_one : (e x : ℕ) → Contains (e ∷ []) x → e ≡ x
contains_one e x (zero, lt, is) = is
contains_one e x (suc k, lt, is) = absurd (omega arith)

pub contains_pushed : (xs : List ℕ) (e x : ℕ) → Contains (xs ++ e ∷ []) x ↔ (Contains xs x ⊎ (e ≡ x))
contains_pushed xs e x = (λ h. by (Contains-append_cases xs (e ∷ []) x h), back)
  where
    by : Contains xs x ⊎ Contains (e ∷ []) x → Contains xs x ⊎ (e ≡ x)
    by (inl h) = inl h
    by (inr h) = inr (contains_one e x h)

    back : Contains xs x ⊎ (e ≡ x) → Contains (xs ++ e ∷ []) x
    back (inl h) = Contains-append_left xs (e ∷ []) x h
    back (inr h) = Contains-append_right xs (e ∷ []) x (0, omega arith, h)

pub contains_none : (x : ℕ) → Contains [] x → ⊥
contains_none x h = absurd (omega (arith, h.1))

-- the first i + 1 of some numbers
pub contains_more : (xs : List ℕ) (i e x : ℕ) → i < length xs → e ≡ get_or xs i e
    → Contains (take (i + 1) xs) x ↔ (Contains (take i xs) x ⊎ (e ≡ x))
contains_more xs i e x lt is =
    subst (λ (l : List ℕ). Contains l x ↔ (Contains (take i xs) x ⊎ (e ≡ x))) (sym (take-more xs i e lt is))
    (contains_pushed (take i xs) e x)

pub true_or_false : (b : Bool) → (b ≡ true) ⊎ (b ≡ false)
true_or_false true = inl refl
true_or_false false = inr refl

pub not_both : (b : Bool) → b ≡ true → b ≡ false → ⊥
not_both b t f = let e : true ≡ false = sym t ∙ f in cc

module _ (P : ℕ → Type 0) where
  module _ (Q : ℕ → Type 0) (a : List Bool) (f : List ℕ) (b : List Bool) (g : List ℕ) (first : Grows P a f b g) where
    pub grows_as : ((n : ℕ) → P n ↔ Q n) → Grows Q a f b g
    grows_as same = record {
      size = first.size;
      marks = λ n. (λ h. to n ((first.marks n).0 h), λ h. (first.marks n).1 (from n h));
      fresh = first.fresh;
    }
      where
        to : (n : ℕ) → (mark_at a n ≡ true) ⊎ P n → (mark_at a n ≡ true) ⊎ Q n
        to n (inl h) = inl h
        to n (inr p) = inr ((same n).0 p)

        from : (n : ℕ) → (mark_at a n ≡ true) ⊎ Q n → (mark_at a n ≡ true) ⊎ P n
        from n (inl h) = inl h
        from n (inr q) = inr ((same n).1 q)

    module _ (c : List Bool) (h : List ℕ) (then : Grows Q b g c h) where
      later : (n : ℕ) → mark_at b n ≡ true → mark_at c n ≡ true
      later n t = (then.marks n).1 (inl t)

      earlier : (n : ℕ) → mark_at b n ≡ false → mark_at a n ≡ false
      earlier n e = by (true_or_false (mark_at a n))
        where
          by : (mark_at a n ≡ true) ⊎ (mark_at a n ≡ false) → mark_at a n ≡ false
          by (inl t) = absurd (not_both (mark_at b n) ((first.marks n).1 (inl t)) e)
          by (inr u) = u

      pub grows_then : Grows (λ n. P n ⊎ Q n) a f c h
      grows_then = record {
        size = then.size ∙ first.size;
        marks = λ n. (λ t. to n ((then.marks n).0 t), from n);
        fresh = λ n. (λ t. out n ((then.fresh n).0 t), back n);
      }
        where
          mid : (n : ℕ) → (mark_at a n ≡ true) ⊎ P n → (mark_at a n ≡ true) ⊎ (P n ⊎ Q n)
          mid n (inl t) = inl t
          mid n (inr p) = inr (inl p)

          to : (n : ℕ) → (mark_at b n ≡ true) ⊎ Q n → (mark_at a n ≡ true) ⊎ (P n ⊎ Q n)
          to n (inl t) = mid n ((first.marks n).0 t)
          to n (inr q) = inr (inr q)

          from : (n : ℕ) → (mark_at a n ≡ true) ⊎ (P n ⊎ Q n) → mark_at c n ≡ true
          from n (inl t) = later n ((first.marks n).1 (inl t))
          from n (inr (inl p)) = later n ((first.marks n).1 (inr p))
          from n (inr (inr q)) = (then.marks n).1 (inr q)

          was : (n : ℕ) → Contains f n ⊎ ((mark_at b n ≡ true) × (mark_at a n ≡ false))
              → Contains f n ⊎ ((mark_at c n ≡ true) × (mark_at a n ≡ false))
          was n (inl t) = inl t
          was n (inr t) = inr (later n t.0, t.1)

          out : (n : ℕ) → Contains g n ⊎ ((mark_at c n ≡ true) × (mark_at b n ≡ false))
              → Contains f n ⊎ ((mark_at c n ≡ true) × (mark_at a n ≡ false))
          out n (inl t) = was n ((first.fresh n).0 t)
          out n (inr t) = inr (t.0, earlier n t.1)

          there : (n : ℕ) → (mark_at c n ≡ true) × (mark_at a n ≡ false) → (mark_at b n ≡ true) ⊎ (mark_at b n ≡ false)
              → Contains h n
          there n t (inl e) = (then.fresh n).1 (inl ((first.fresh n).1 (inr (e, t.1))))
          there n t (inr e) = (then.fresh n).1 (inr (t.0, e))

          back : (n : ℕ) → Contains f n ⊎ ((mark_at c n ≡ true) × (mark_at a n ≡ false)) → Contains h n
          back n (inl t) = (then.fresh n).1 (inl ((first.fresh n).1 (inl t)))
          back n (inr t) = there n t (true_or_false (mark_at b n))

-- one number of a list more
pub listed_more : (list : List ℕ) (i n : ℕ) (a : List Bool) (f : List ℕ) (b : List Bool) (g : List ℕ) (c : List Bool)
    (h : List ℕ) → i < length list → n ≡ get_or list i n → Grows (Contains (take i list)) a f b g
    → Grows (λ m. n ≡ m) b g c h → Grows (Contains (take (i + 1) list)) a f c h
listed_more list i n a f b g c h lt is first then =
    grows_as (λ m. Contains (take i list) m ⊎ (n ≡ m)) (Contains (take (i + 1) list)) a f c h
    (grows_then (Contains (take i list)) (λ m. n ≡ m) a f b g first c h then)
    (λ m. let e = contains_more list i n m lt is in (e.1, e.0))

-- the list of one number in front more
module _ (lists : List (List ℕ)) (front : List ℕ) (i n : ℕ) (lt : i < length front) (is : n ≡ get_or front i n)
    (list : List ℕ) (list_is : list ≡ get_or lists n []) where
  next_is : (m : ℕ) → (IsNext lists (take i front) m ⊎ Contains list m) ↔ IsNext lists (take (i + 1) front) m
  next_is m = (to, λ t. from t ((contains_more front i n t.0 lt is).0 t.1))
    where
      to : IsNext lists (take i front) m ⊎ Contains list m → IsNext lists (take (i + 1) front) m
      to (inl t) = (t.0, (contains_more front i n t.0 lt is).1 (inl t.1), t.2)
      to (inr t) = (n, (contains_more front i n n lt is).1 (inr refl), subst (λ (l : List ℕ). Contains l m) list_is t)

      from : (t : IsNext lists (take (i + 1) front) m) → Contains (take i front) t.0 ⊎ (n ≡ t.0)
          → IsNext lists (take i front) m ⊎ Contains list m
      from t (inl u) = inl (t.0, u, t.2)
      from t (inr e) =
          inr (subst (λ (l : List ℕ). Contains l m) (sym list_is)
          (subst (λ (k : ℕ). Has lists k m) (sym e) t.2))

  pub next_more : (a : List Bool) (f : List ℕ) (b : List Bool) (g : List ℕ) (c : List Bool) (h : List ℕ)
      → Grows (IsNext lists (take i front)) a f b g → Grows (Contains list) b g c h
      → Grows (IsNext lists (take (i + 1) front)) a f c h
  next_more a f b g c h first then =
      grows_as (λ m. IsNext lists (take i front) m ⊎ Contains list m) (IsNext lists (take (i + 1) front)) a f c h
      (grows_then (IsNext lists (take i front)) (Contains list) a f b g first c h then) next_is
