-- Sets that are filled in the order of a list, and what of the list is kept.
use Rattle.std.proofs.Common.{◌≡◌, ◌<◌, ◌≤◌, ◌+◌, ◌++◌, ◌||◌, ℕ, List, [], ◌∷◌, Bool, true, false, cond, length, drop}
use Rattle.std.proofs.Common.{take, get_or, reverse, nat_le, Some, None, refl, sym, ap, subst, ◌∙◌, arith, append-nil}
use Rattle.std.proofs.Common.{append_assoc, length-append}
use Rattle.std.specs.Borrow.{Bor}
use Rattle.std.specs.List.{list_any, flat_map}
use Rattle.std.proofs.lemmas.List.{reverse-append, reverse-reverse, length-reverse, map-append, take-append-drop}
use Rattle.std.proofs.lemmas.Grind.{flat_map-append}
use Rattle.std.proofs.lemmas.List.Folds.{list_any-append}
use Rattle.std.proofs.lemmas.List.Sums.{fold-append}
use Rattle.indexmap.specs.IndexSet.{insert_key, insert_all}
use Rattle.bp_faults.proofs.Lists.{drop-here, take-more}
use Rattle.bp_faults.specs.declared.limits.TheConstants.{LONGEST_LINE}
use Rattle.info_mutators.specs.Kept.{last_of_each, first_of_each, is_short, if_short}
use Rattle.info_mutators.specs.Inside.{values_behind}

pub or_false : (b : Bool) → (b || false) ≡ b
or_false true = refl
or_false false = refl

or_swap : (a b : Bool) → (a || b) ≡ (b || a)
or_swap true true = refl
or_swap true false = refl
or_swap false true = refl
or_swap false false = refl

pub any_reverse : {A : Type 0} (p : A → Bool) (xs : List A) → list_any p (reverse xs) ≡ list_any p xs
any_reverse p [] = refl
any_reverse p (x ∷ xs) =
    ap (list_any p) (reverse-append (x ∷ []) xs)
    ∙ list_any-append p (reverse xs) (x ∷ [])
    ∙ ap (λ b. b || (p x || false)) (any_reverse p xs)
    ∙ ap (λ b. list_any p xs || b) (or_false (p x))
    ∙ or_swap (list_any p xs) (p x)

module _ {A : Type 0} (same : A → A → Bool) (decides : (x y : A) → same x y ≡ true → x ≡ y) where
  -- of what repeats, one is kept
  pub any_kept : (x : A) (ys : List A) → list_any (same x) (last_of_each same ys) ≡ list_any (same x) ys
  any_kept x [] = refl
  any_kept x (y ∷ ys) = by (list_any (same y) ys) (same x y) refl refl (any_kept x ys)
    where
      by : (again equal : Bool) → list_any (same y) ys ≡ again → same x y ≡ equal
          → list_any (same x) (last_of_each same ys) ≡ list_any (same x) ys
          → list_any (same x) (cond again (last_of_each same ys) (y ∷ last_of_each same ys))
          ≡ (same x y || list_any (same x) ys)
      by true true a s rest =
          rest ∙ ap (λ z. list_any (same z) ys) (decides x y s) ∙ a ∙ sym (ap (λ b. b || list_any (same x) ys) s)
      by true false a s rest = rest ∙ sym (ap (λ b. b || list_any (same x) ys) s)
      by false equal a s rest = ap (λ b. same x y || b) rest

  -- one more, before the others
  noted : (keys ys : List A) (x : A) → reverse keys ≡ last_of_each same ys
      → reverse (insert_key same keys x) ≡ last_of_each same (x ∷ ys)
  noted keys ys x end =
      by (list_any (same x) keys) (list_any (same x) ys)
      (sym (any_reverse (same x) keys) ∙ ap (list_any (same x)) end ∙ any_kept x ys)
    where
      by : (a b : Bool) → a ≡ b
          → reverse (cond a keys (keys ++ x ∷ [])) ≡ cond b (last_of_each same ys) (x ∷ last_of_each same ys)
      by true true e = end
      by true false e = cc
      by false true e = cc
      by false false e = reverse-append keys (x ∷ []) ∙ ap (λ r. x ∷ r) end

  -- a list more, before the others
  noted_all : (keys xs ys : List A) → reverse keys ≡ last_of_each same ys
      → reverse (insert_all same keys (reverse xs)) ≡ last_of_each same (xs ++ ys)
  noted_all keys [] ys end = end
  noted_all keys (x ∷ xs) ys end =
      ap (λ zs. reverse (insert_all same keys zs)) (reverse-append (x ∷ []) xs)
      ∙ ap reverse (fold-append (insert_key same) keys (reverse xs) (x ∷ []))
      ∙ noted (insert_all same keys (reverse xs)) (xs ++ ys) x (noted_all keys xs ys end)

  -- a set that is filled from the end of a list, turned round, has the last of what repeats
  pub last_kept : (xs : List A) → reverse (insert_all same [] (reverse xs)) ≡ last_of_each same xs
  last_kept xs = noted_all [] xs [] refl ∙ ap (last_of_each same) (append-nil xs)

  -- a set that is filled in the order of a list has the first of what repeats
  pub first_kept : (xs : List A) → insert_all same [] xs ≡ first_of_each same xs
  first_kept xs =
      sym (reverse-reverse (insert_all same [] xs))
      ∙ ap reverse (ap (λ zs. reverse (insert_all same [] zs)) (sym (reverse-reverse xs)) ∙ last_kept (reverse xs))

-- the keys of a set of references, and the values behind them
any_behind : {A : Type 0} (p : A → Bool) (keys : List (Bor A))
    → list_any p (values_behind keys) ≡ list_any (λ (k : Bor A). p k.now) keys
any_behind p [] = refl
any_behind p (k ∷ keys) = ap (λ b. p k.now || b) (any_behind p keys)

pub note_behind : {A : Type 0} (same : A → A → Bool) (keys : List (Bor A)) (r : Bor A)
    → values_behind (insert_key (λ (a b : Bor A). same a.now b.now) keys r) ≡ insert_key same (values_behind keys) r.now
note_behind same keys r =
    by (list_any (λ (k : Bor _). same r.now k.now) keys)
    ∙ ap (λ b. cond b (values_behind keys) (values_behind keys ++ r.now ∷ [])) (sym (any_behind (same r.now) keys))
  where
    by : (b : Bool)
        → values_behind (cond b keys (keys ++ r ∷ [])) ≡ cond b (values_behind keys) (values_behind keys ++ r.now ∷ [])
    by true = refl
    by false = map-append (λ (k : Bor _). k.now) keys (r ∷ [])

-- a set grows
grows : {A : Type 0} (same : A → A → Bool) (keys : List A) (x : A) → length keys ≤ length (insert_key same keys x)
grows same keys x = by (list_any (same x) keys)
  where
    by : (b : Bool) → length keys ≤ length (cond b keys (keys ++ x ∷ []))
    by true = omega arith
    by false = grind (arith, length-append)

grows_all : {A : Type 0} (same : A → A → Bool) (keys xs : List A) → length keys ≤ length (insert_all same keys xs)
grows_all same keys [] = omega arith
grows_all same keys (x ∷ xs) =
    let a = grows same keys x in let b = grows_all same (insert_key same keys x) xs in omega (arith, a, b)

none_some : {A : Type 0} {x : A} → None ≡ Some x → ⊥
none_some e = cc

some_same : {A : Type 0} {x y : A} → Some x ≡ Some y → x ≡ y
some_same e = cc

-- a list that is too long is as any other that is
pub none_short : {A : Type 0} (xs : List A) → LONGEST_LINE < length xs → if_short xs ≡ None
none_short xs long = ap (λ b. cond b (Some xs) None) (by (is_short xs) refl)
  where
    by : (b : Bool) → is_short xs ≡ b → b ≡ false
    by true e = absurd (grind (arith, e, long))
    by false e = refl

pub some_short : {A : Type 0} (xs : List A) → length xs ≤ LONGEST_LINE → if_short xs ≡ Some xs
some_short xs few = ap (λ b. cond b (Some xs) None) (by (is_short xs) refl)
  where
    by : (b : Bool) → is_short xs ≡ b → b ≡ true
    by true e = refl
    by false e = absurd (grind (arith, e, few))

-- two lists that are the same up to the limit
module _ {A : Type 0} (us vs : List A) (e : if_short us ≡ if_short vs) where
  pub both_long : LONGEST_LINE < length us → LONGEST_LINE < length vs
  both_long long = by (is_short vs) refl
    where
      by : (b : Bool) → is_short vs ≡ b → LONGEST_LINE < length vs
      by true short = absurd (none_some (sym (none_short us long) ∙ e ∙ ap (λ b. cond b (Some vs) None) short))
      by false short = grind (arith, short)

  pub both_same : length us ≤ LONGEST_LINE → us ≡ vs
  both_same few = by (is_short vs) refl
    where
      by : (b : Bool) → is_short vs ≡ b → us ≡ vs
      by true short = some_same (sym (some_short us few) ∙ e ∙ ap (λ b. cond b (Some vs) None) short)
      by false short = absurd (none_some (sym (ap (λ b. cond b (Some vs) None) short) ∙ sym e ∙ some_short us few))

-- what is noted behind them
pub short_then : {A : Type 0} (same : A → A → Bool) (us vs xs : List A) → if_short us ≡ if_short vs
    → if_short (insert_all same us xs) ≡ if_short (insert_all same vs xs)
short_then same us vs xs e = by (nat_le (length us) LONGEST_LINE) refl
  where
    by : (b : Bool) → nat_le (length us) LONGEST_LINE ≡ b
        → if_short (insert_all same us xs) ≡ if_short (insert_all same vs xs)
    by true short = ap (λ ks. if_short (insert_all same ks xs)) (both_same us vs e (grind (arith, short)))
    by false short =
        let long : LONGEST_LINE < length us = grind (arith, short) in
        let long_too = both_long us vs e long in
        let more = grows_all same us xs in
        let more_too = grows_all same vs xs in
        none_short (insert_all same us xs) (omega (arith, long, more))
        ∙ sym (none_short (insert_all same vs xs) (omega (arith, long_too, more_too)))

pub short_reversed : {A : Type 0} (us vs : List A) → if_short us ≡ if_short vs
    → if_short (reverse us) ≡ if_short (reverse vs)
short_reversed us vs e = by (nat_le (length us) LONGEST_LINE) refl
  where
    by : (b : Bool) → nat_le (length us) LONGEST_LINE ≡ b → if_short (reverse us) ≡ if_short (reverse vs)
    by true short = ap (λ ks. if_short (reverse ks)) (both_same us vs e (grind (arith, short)))
    by false short =
        let long : LONGEST_LINE < length us = grind (arith, short) in
        let long_too = both_long us vs e long in
        none_short (reverse us) (subst (λ k. LONGEST_LINE < k) (sym (length-reverse us)) long)
        ∙ sym (none_short (reverse vs) (subst (λ k. LONGEST_LINE < k) (sym (length-reverse vs)) long_too))

module _ {A : Type 0} (same : A → A → Bool) where
  -- one list is noted behind another, each up to the limit
  pub short_behind : (old keys after xs ys : List A) → if_short keys ≡ if_short (insert_all same old xs)
      → if_short after ≡ if_short (insert_all same keys ys)
      → if_short after ≡ if_short (insert_all same old (xs ++ ys))
  short_behind old keys after xs ys e f =
      f
      ∙ short_then same keys (insert_all same old xs) ys e
      ∙ ap if_short (sym (fold-append (insert_key same) old xs ys))

  -- one item more
  pub one_noted : (old keys after xs : List A) (i : ℕ) (x : A) → i < length xs → x ≡ get_or xs i x
      → if_short keys ≡ if_short (insert_all same old (take i xs))
      → if_short after ≡ if_short (insert_key same keys x)
      → if_short after ≡ if_short (insert_all same old (take (i + 1) xs))
  one_noted old keys after xs i x within is e f =
      short_behind old keys after (take i xs) (x ∷ []) e f
      ∙ ap (λ zs. if_short (insert_all same old zs)) (sym (take-more xs i x within is))

  module _ {X : Type 0} (f : X → List A) (ds : List X) (i : ℕ) (d : X) (within : i < length ds)
      (is : d ≡ get_or ds i d) where
    flat_take : flat_map f (take (i + 1) ds) ≡ flat_map f (take i ds) ++ f d
    flat_take =
        ap (flat_map f) (take-more ds i d within is)
        ∙ flat_map-append f (take i ds) (d ∷ [])
        ∙ ap (λ ys. flat_map f (take i ds) ++ ys) (append-nil (f d))

    -- what is made of one item more
    pub part_noted : (old keys after : List A) → if_short keys ≡ if_short (insert_all same old (flat_map f (take i ds)))
        → if_short after ≡ if_short (insert_all same keys (f d))
        → if_short after ≡ if_short (insert_all same old (flat_map f (take (i + 1) ds)))
    part_noted old keys after e g =
        short_behind old keys after (flat_map f (take i ds)) (f d) e g
        ∙ ap (λ zs. if_short (insert_all same old zs)) (sym flat_take)

    -- what is made of the items from the last on, with one more
    pub end_noted : (p : ℕ) → p ≡ i + 1 → (old keys after : List A)
        → if_short keys ≡ if_short (insert_all same old (reverse (flat_map f (drop p ds))))
        → if_short after ≡ if_short (insert_all same keys (reverse (f d)))
        → if_short after ≡ if_short (insert_all same old (reverse (flat_map f (drop i ds))))
    end_noted p next old keys after e g =
        short_behind old keys after (reverse (flat_map f (drop p ds))) (reverse (f d)) e g
        ∙ ap (λ zs. if_short (insert_all same old zs)) (
        sym (reverse-append (f d) (flat_map f (drop p ds))) ∙ ap (λ k. reverse (f d ++ flat_map f (drop k ds))) next
        ∙ ap (λ (l : List X). reverse (flat_map f l)) (sym (drop-here ds i d within is)))

-- items that stand in a set already change nothing
module _ {A : Type 0} (same : A → A → Bool) (itself : (x : A) → same x x ≡ true) where
  any_there : (before after : List A) (x : A) → list_any (same x) (before ++ x ∷ after) ≡ true
  any_there before after x =
      list_any-append (same x) before (x ∷ after)
      ∙ ap (λ b. list_any (same x) before || (b || list_any (same x) after)) (itself x)
      ∙ by (list_any (same x) before)
    where
      by : (b : Bool) → (b || (true || list_any (same x) after)) ≡ true
      by true = refl
      by false = refl

  there_stays : (before xs after : List A) → insert_all same (before ++ (xs ++ after)) xs ≡ before ++ (xs ++ after)
  there_stays before [] after = refl
  there_stays before (x ∷ xs) after =
      let more : (before ++ x ∷ []) ++ (xs ++ after) ≡ before ++ x ∷ (xs ++ after) =
      append_assoc before (x ∷ []) (xs ++ after) in
      ap (λ b. insert_all same (cond b (before ++ x ∷ (xs ++ after)) ((before ++ x ∷ (xs ++ after)) ++ x ∷ [])) xs)
      (any_there before (xs ++ after) x)
      ∙ ap (λ keys. insert_all same keys xs) (sym more) ∙ there_stays (before ++ x ∷ []) xs after ∙ more

  pub front_stays : (keys : List A) (i : ℕ) → insert_all same keys (take i keys) ≡ keys
  front_stays keys i =
      ap (λ ks. insert_all same ks (take i keys)) (sym (take-append-drop i keys))
      ∙ there_stays [] (take i keys) (drop i keys)
      ∙ take-append-drop i keys
