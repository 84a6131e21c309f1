-- Members of lists, by recursion, and what a function makes of those that pass a test.
use Rattle.std.proofs.Common.{◌≡◌, ◌<◌, ◌++◌, ◌⊎◌, inl, inr, ℕ, zero, suc, Bool, true, false, cond, List, [], ◌∷◌, map}
use Rattle.std.proofs.Common.{length, get_or, refl, sym, ap, ◌∙◌, arith}
use Rattle.std.specs.List.{Contains, filter}
use Rattle.path_patterns.specs.Levels.{Among}
use Rattle.std.proofs.Math.Bool.{true≢false}

module _ {X : Type 0} where
  at_index : (xs : List X) (x : X) (k : ℕ) → k < length xs → get_or xs k x ≡ x → Among xs x
  at_index [] x k inside is = absurd (omega arith)
  at_index (y ∷ ys) x zero inside is = inl is
  at_index (y ∷ ys) x (suc k) inside is = inr (at_index ys x k (omega arith) is)

  pub contained_among : (xs : List X) (x : X) → Contains xs x → Among xs x
  contained_among xs x h = at_index xs x h.0 h.1 h.2

  pub among_contained : (xs : List X) (x : X) → Among xs x → Contains xs x
  among_contained [] x h = absurd h
  among_contained (y ∷ ys) x (inl e) = (0, omega arith, e)
  among_contained (y ∷ ys) x (inr h) = let r = among_contained ys x h in (suc r.0, omega arith, r.2)

  pub among_left : (xs ys : List X) (x : X) → Among xs x → Among (xs ++ ys) x
  among_left [] ys x h = absurd h
  among_left (z ∷ zs) ys x (inl e) = inl e
  among_left (z ∷ zs) ys x (inr h) = inr (among_left zs ys x h)

  pub among_right : (xs ys : List X) (x : X) → Among ys x → Among (xs ++ ys) x
  among_right [] ys x h = h
  among_right (z ∷ zs) ys x h = inr (among_right zs ys x h)

  pub among_either : (xs ys : List X) (x : X) → Among (xs ++ ys) x → Among xs x ⊎ Among ys x
  among_either [] ys x h = inr h
  among_either (z ∷ zs) ys x (inl e) = inl (inl e)
  among_either (z ∷ zs) ys x (inr h) = by (among_either zs ys x h) where
    by : Among zs x ⊎ Among ys x → ((z ≡ x) ⊎ Among zs x) ⊎ Among ys x
    by (inl k) = inl (inr k)
    by (inr k) = inr k

module _ {X Y : Type 0} (f : X → Y) (test : X → Bool) where
  -- What passes is there, as the function makes it.
  pub among_made : (xs : List X) (x : X) → Among xs x → test x ≡ true → Among (map f (filter test xs)) (f x)
  among_made [] x h passes = absurd h
  among_made (y ∷ ys) x (inl e) passes = by (test y) (ap test e ∙ passes) where
    by : (b : Bool) → b ≡ true → Among (map f (cond b (y ∷ filter test ys) (filter test ys))) (f x)
    by true h = inl (ap f e)
    by false h = absurd (true≢false (sym h))
  among_made (y ∷ ys) x (inr h) passes = by (test y) (among_made ys x h passes) where
    by : (b : Bool) → Among (map f (filter test ys)) (f x)
        → Among (map f (cond b (y ∷ filter test ys) (filter test ys))) (f x)
    by true k = inr k
    by false k = k

  -- And whatever is there was made of such an element.
  pub record Source (xs : List X) (made : Y) : Type 0 where
    pub of : X
    pub among : Among xs of
    pub passes : test of ≡ true
    pub is : f of ≡ made

  later : (y : X) (ys : List X) (made : Y) → Source ys made → Source (y ∷ ys) made
  later y ys made s = record { of = s.of; among = inr s.among; passes = s.passes; is = s.is }

  pub among_source : (xs : List X) (made : Y) → Among (map f (filter test xs)) made → Source xs made
  among_source [] made h = absurd h
  among_source (y ∷ ys) made h = by (λ k. among_source ys made k) (test y) refl h where
    first : (Among (map f (filter test ys)) made → Source ys made) → test y ≡ true
        → (f y ≡ made) ⊎ Among (map f (filter test ys)) made → Source (y ∷ ys) made
    first rest passes (inl e) = record { of = y; among = inl refl; passes = passes; is = e }
    first rest passes (inr k) = later y ys made (rest k)

    by : (Among (map f (filter test ys)) made → Source ys made) → (b : Bool) → test y ≡ b
        → Among (map f (cond b (y ∷ filter test ys) (filter test ys))) made → Source (y ∷ ys) made
    by rest true passes k = first rest passes k
    by rest false fails k = later y ys made (rest k)
