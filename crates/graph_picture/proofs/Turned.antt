-- Lists that are turned around, one number and one list after another.
use Rattle.std.proofs.Common.{◌≡◌, ◌≢◌, ◌∙◌, ◌+◌, ◌<◌, ◌++◌, ◌⊎◌, ◌↔◌, inl, inr, ℕ, zero, suc, List, [], ◌∷◌, length}
use Rattle.std.proofs.Common.{get_or, set, take, ap, sym, subst, refl, arith, Contains, get_or-set_same}
use Rattle.std.proofs.Common.{get_or-set_other, length-set}
use Rattle.std.specs.List.{AllByRecursion}
use Rattle.std.proofs.lemmas.Bool.{cases_eq}
use Rattle.bp_faults.proofs.Lists.{same_at}
use Rattle.graph_picture.specs.Growing.{Has, PutsBack, AreEmpty, AreTurned}
use Rattle.graph_picture.proofs.Growth.{contains_pushed, contains_more, contains_none}

pub beyond : (lists : List (List ℕ)) (n m : ℕ) → Has lists n m → n < length lists
beyond [] n m h = absurd (contains_none m h)
beyond (l ∷ lists) zero m h = omega arith
beyond (l ∷ lists) (suc n) m h = omega (arith, beyond lists n m h)

none_has : (lists : List (List ℕ)) → AllByRecursion (λ (list : List ℕ). list ≡ []) lists → (n m : ℕ) → Has lists n m → ⊥
none_has [] all n m h = contains_none m h
none_has (l ∷ lists) all zero m h = contains_none m (subst (λ (k : List ℕ). Contains k m) all.0 h)
none_has (l ∷ lists) all (suc n) m h = none_has lists all.1 n m h

module _ (n : ℕ) (old back : List (List ℕ)) (list : List ℕ) (i m : ℕ) (lt : i < length list) (is : m ≡ get_or list i m)
    (p : PutsBack n (Contains (take i list)) old back) (inside : m < length back) (had new : List ℕ)
    (had_is : had ≡ get_or back m had) (new_is : new ≡ had ++ n ∷ []) where
  here : (y : ℕ) → Has (set back m new) m y ↔ (Has back m y ⊎ (n ≡ y))
  here y =
      let In : List ℕ → Type 0 = λ l. Contains l y in
      let e = contains_pushed had n y in
      let at = had_is ∙ same_at back m had [] inside in
      let made = get_or-set_same back m new [] inside ∙ new_is in (
        (λ h. left y at (e.0 (subst In made h))),
        (λ h. subst In (sym made) (e.1 (right y at h))),
      )
    where
      left : (y : ℕ) → had ≡ get_or back m [] → Contains had y ⊎ (n ≡ y) → Has back m y ⊎ (n ≡ y)
      left y at (inl h) = inl (subst (λ (l : List ℕ). Contains l y) at h)
      left y at (inr h) = inr h

      right : (y : ℕ) → had ≡ get_or back m [] → Has back m y ⊎ (n ≡ y) → Contains had y ⊎ (n ≡ y)
      right y at (inl h) = inl (subst (λ (l : List ℕ). Contains l y) (sym at) h)
      right y at (inr h) = inr h

  there : (x y : ℕ) → x ≢ m → Has (set back m new) x y ≡ Has back x y
  there x y ne = ap (λ (l : List ℕ). Contains l y) (get_or-set_other back m x new [] ne)

  pub back_more : PutsBack n (Contains (take (i + 1) list)) old (set back m new)
  back_more = record {
    size = length-set back m new ∙ p.size;
    exact = λ x y. (to x y (cases_eq x m), λ h. from x y (cases_eq x m) h);
  }
    where
      wider : (x y : ℕ) → Has old x y ⊎ ((y ≡ n) × Contains (take i list) x)
          → Has old x y ⊎ ((y ≡ n) × Contains (take (i + 1) list) x)
      wider x y (inl h) = inl h
      wider x y (inr h) = inr (h.0, (contains_more list i m x lt is).1 (inl h.1))

      at : (x y : ℕ) → x ≡ m → Has back m y ⊎ (n ≡ y) → Has old x y ⊎ ((y ≡ n) × Contains (take (i + 1) list) x)
      at x y e (inl h) = wider x y ((p.exact x y).0 (subst (λ (k : ℕ). Has back k y) (sym e) h))
      at x y e (inr h) = inr (sym h, (contains_more list i m x lt is).1 (inr (sym e)))

      to : (x y : ℕ) → (x ≡ m) ⊎ (x ≢ m) → Has (set back m new) x y
          → Has old x y ⊎ ((y ≡ n) × Contains (take (i + 1) list) x)
      to x y (inl e) h = at x y e ((here y).0 (subst (λ (k : ℕ). Has (set back m new) k y) e h))
      to x y (inr ne) h = wider x y ((p.exact x y).0 (let same = there x y ne in subst (λ (T : Type 0). T) same h))

      kept : (x y : ℕ) → (x ≡ m) ⊎ (x ≢ m) → Has back x y → Has (set back m new) x y
      kept x y (inl e) h =
          subst (λ (k : ℕ). Has (set back m new) k y) (sym e)
          ((here y).1 (inl (subst (λ (k : ℕ). Has back k y) e h)))
      kept x y (inr ne) h = subst (λ (T : Type 0). T) (sym (there x y ne)) h

      put : (x y : ℕ) → (x ≡ m) ⊎ (x ≢ m) → y ≡ n → Contains (take i list) x ⊎ (m ≡ x) → Has (set back m new) x y
      put x y c e (inl h) = kept x y c ((p.exact x y).1 (inr (e, h)))
      put x y c e (inr h) = subst (λ (k : ℕ). Has (set back m new) k y) h ((here y).1 (inr (sym e)))

      from : (x y : ℕ) → (x ≡ m) ⊎ (x ≢ m) → Has old x y ⊎ ((y ≡ n) × Contains (take (i + 1) list) x)
          → Has (set back m new) x y
      from x y c (inl h) = kept x y c ((p.exact x y).1 (inl h))
      from x y c (inr h) = put x y c h.0 ((contains_more list i m x lt is).0 h.1)

pub back_none : (n : ℕ) (back : List (List ℕ)) → PutsBack n (Contains []) back back
back_none n back = record { size = refl; exact = λ x y. (inl, by x y) }
  where
    by : (x y : ℕ) → Has back x y ⊎ ((y ≡ n) × Contains [] x) → Has back x y
    by x y (inl h) = h
    by x y (inr h) = absurd (contains_none x h.1)

-- the lists so far
pub record IsTurning (lists : List (List ℕ)) (n : ℕ) (back : List (List ℕ)) : Type 0 where
  pub size : length back ≡ length lists
  pub turned : (x y : ℕ) → Has back x y ↔ ((y < n) × Has lists y x)

pub turning_none : (lists back : List (List ℕ)) → AreEmpty (length lists) back → IsTurning lists 0 back
turning_none lists back e = record {
  size = e.size;
  turned = λ x y. (λ h. absurd (none_has back e.none x y h), λ h. absurd (omega (arith, h.0)));
}

pub turning_more : (lists back new : List (List ℕ)) (n : ℕ) (list : List ℕ) → list ≡ get_or lists n []
    → IsTurning lists n back → PutsBack n (Contains list) back new → IsTurning lists (n + 1) new
turning_more lists back new n list is t p = record {
  size = p.size ∙ t.size;
  turned = λ x y. (λ h. to x y ((p.exact x y).0 h), λ h. (p.exact x y).1 (from x y h (cases_eq y n)));
}
  where
    In : ℕ → List ℕ → Type 0
    In x l = Contains l x

    to : (x y : ℕ) → Has back x y ⊎ ((y ≡ n) × Contains list x) → (y < n + 1) × Has lists y x
    to x y (inl h) = let u = (t.turned x y).0 h in (omega (arith, u.0), u.1)
    to x y (inr h) =
        (omega (arith, h.0), subst (λ (k : ℕ). Has lists k x) (sym h.0) (subst (λ (l : List ℕ). Contains l x) is h.1))

    from : (x y : ℕ) → (y < n + 1) × Has lists y x → (y ≡ n) ⊎ (y ≢ n) → Has back x y ⊎ ((y ≡ n) × Contains list x)
    from x y h (inl e) =
        inr (e, subst (λ (l : List ℕ). Contains l x) (sym is) (subst (λ (k : ℕ). Has lists k x) e h.1))
    from x y h (inr ne) = inl ((t.turned x y).1 (omega (arith, h.0), h.1))

pub turning_all : (lists back : List (List ℕ)) → IsTurning lists (length lists) back → AreTurned lists back
turning_all lists back t = record {
  size = t.size;
  turned = λ n m. (λ h. ((t.turned n m).0 h).1, λ h. (t.turned n m).1 (beyond lists m n h, h));
}
