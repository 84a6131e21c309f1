-- A look-up in the list of pairs, and in the map's entries.
use Rattle.std.proofs.Common.{◌≡◌, ℕ, Bool, true, false, cond, List, [], ◌∷◌, ◌++◌, map, Option, None, Some, option_map}
use Rattle.std.proofs.Common.{refl, ap, sym, ◌∙◌, Bor, option_copied}
use Rattle.std.specs.Str.{bytes_eq}
use Rattle.std.specs.Map.{lookup}
use Rattle.std.specs.Option.{option_or}
use Rattle.bp_values.specs.declared.value.Value.{Value}
use Rattle.bp_values.specs.Values.{Meaning, meaning}
use Rattle.bp_values.specs.Scopes.{Pairs, pair_of, value_in}
use Rattle.bp_values.specs.Meaning.{with_other}

pub lookup_pairs : (test : List ℕ → Bool) (es : List (List ℕ × Value))
    → option_map meaning (lookup test es) ≡ lookup test (map pair_of es)
lookup_pairs test [] = refl
lookup_pairs test (e ∷ es) = by (test e.0) (lookup_pairs test es)
  where
    by : (b : Bool) → option_map meaning (lookup test es) ≡ lookup test (map pair_of es) → option_map meaning
        (cond b (Some e.1) (lookup test es)) ≡ cond b (Some (meaning e.1)) (lookup test (map pair_of es))
    by true h = refl
    by false h = h

pub borrowed : (r : Option (Bor Value)) → option_map (λ v. meaning v.now) r ≡ option_map meaning (option_copied r)
borrowed None = refl
borrowed (Some v) = refl

-- of two values that a name gets, the second stays
pub other_again : (k : List ℕ) (v w : Meaning) (es : Pairs) → with_other (with_other es k v) k w ≡ with_other es k w
other_again k v w [] = refl
other_again k v w (e ∷ es) = by (bytes_eq k e.0) refl (other_again k v w es)
  where
    by : (b : Bool) → bytes_eq k e.0 ≡ b → with_other (with_other es k v) k w ≡ with_other es k w
        → with_other (cond b ((e.0, v) ∷ es) (e ∷ with_other es k v)) k w
        ≡ cond b ((e.0, w) ∷ es) (e ∷ with_other es k w)
    by true at h = rw at refl
    by false at h = rw at (ap (λ l. e ∷ l) h)

-- the first pair of a name in two lists
pub lookup_append : (test : List ℕ → Bool) (xs ys : Pairs)
    → lookup test (xs ++ ys) ≡ option_or (lookup test xs) (lookup test ys)
lookup_append test [] ys = refl
lookup_append test (x ∷ xs) ys = by (test x.0) (lookup_append test xs ys)
  where
    by : (b : Bool) → lookup test (xs ++ ys) ≡ option_or (lookup test xs) (lookup test ys)
        → cond b (Some x.1) (lookup test (xs ++ ys)) ≡ option_or (cond b (Some x.1) (lookup test xs)) (lookup test ys)
    by true h = refl
    by false h = h

-- a name that the first list lacks gets its value in the second
pub other_behind : (k : List ℕ) (v : Meaning) (xs ys : Pairs) → value_in xs k ≡ None
    → with_other (xs ++ ys) k v ≡ xs ++ with_other ys k v
other_behind k v [] ys none = refl
other_behind k v (x ∷ xs) ys none = by (bytes_eq k x.0) none (other_behind k v xs ys)
  where
    by : (b : Bool) → cond b (Some x.1) (value_in xs k) ≡ None
        → (value_in xs k ≡ None → with_other (xs ++ ys) k v ≡ xs ++ with_other ys k v)
        → cond b ((x.0, v) ∷ (xs ++ ys)) (x ∷ with_other (xs ++ ys) k v) ≡ x ∷ (xs ++ with_other ys k v)
    by true none rest = cc
    by false none rest = ap (λ l. x ∷ l) (rest none)

-- a name that two lists lack is lacking in the first
pub absent_first : (k : List ℕ) (xs ys : Pairs) → value_in (xs ++ ys) k ≡ None → value_in xs k ≡ None
absent_first k [] ys none = refl
absent_first k (x ∷ xs) ys none = by (bytes_eq k x.0) none (absent_first k xs ys)
  where
    by : (b : Bool) → cond b (Some x.1) (value_in (xs ++ ys) k) ≡ None
        → (value_in (xs ++ ys) k ≡ None → value_in xs k ≡ None) → cond b (Some x.1) (value_in xs k) ≡ None
    by true none rest = cc
    by false none rest = rest none

-- the value of a name that the first list has
pub value_before : (k : List ℕ) (xs ys : Pairs) (v : Meaning) → Some v ≡ value_in xs k → value_in (xs ++ ys) k ≡ Some v
value_before k xs ys v has = lookup_append (bytes_eq k) xs ys ∙ ap (λ r. option_or r (value_in ys k)) (sym has)
