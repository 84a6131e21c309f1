-- How names are found by slots, before and after an index gets one name more.
use Rattle.std.proofs.Common.{◌≡◌, ◌≢◌, ◌∙◌, ◌<◌, ◌≤◌, ◌+◌, ◌-◌, ℕ, zero, suc, Bool, true, false, cond, List, [], ◌∷◌}
use Rattle.std.proofs.Common.{◌++◌}
use Rattle.std.proofs.Common.{length, nat_eq, bit_and, slice_get, set, replicate, refl, ap, sym, arith}
use Rattle.std.proofs.Common.{Option, Some, None, true≢false}
use Rattle.std.specs.Prelude.{if◌then◌else◌}
use Rattle.std.specs.Option.{option_or}
use Rattle.std.specs.Str.{bytes_eq}
use Rattle.std.proofs.lemmas.Bool.{eqb-true, eqb-false}
use Rattle.std.proofs.lemmas.Cmp.{nat_list_eq_equiv}
use Rattle.bp_faults.proofs.Lists.{same_bytes, get_else}
use Rattle.bp_names.specs.Meaning.{number_of, number_for, LearnsNumber}
use Rattle.name_index.specs.Keys.{key_of}
use Rattle.name_index.specs.Slots.{is_free, by_owner, number_by, FindsBySlots}

abbrev Named : Type 0
Named = List ℕ × ℕ

or_none : (o : Option ℕ) → option_or o None ≡ o
or_none None = refl
or_none (Some n) = refl

none_of_first : (a b : Option ℕ) → option_or a b ≡ None → a ≡ None
none_of_first None b is = refl
none_of_first (Some n) b is = cc

-- a slot that is written
get_set_here : (xs : List ℕ) (i v : ℕ) → is_free (slice_get xs i) ≡ true → slice_get (set xs i v) i ≡ Some v
get_set_here [] i v e = cc
get_set_here (y ∷ ys) zero v e = refl
get_set_here (y ∷ ys) (suc i) v e = get_set_here ys i v e

pub free_inside : (xs : List ℕ) (i : ℕ) → is_free (slice_get xs i) ≡ true → i < length xs
free_inside [] i e = cc
free_inside (y ∷ ys) zero e = omega arith
free_inside (y ∷ ys) (suc i) e = let lt = free_inside ys i e in omega (arith, lt)

-- a list with one item more
get_last : (xs : List Named) (x : Named) → slice_get (xs ++ x ∷ []) (length xs) ≡ Some x
get_last [] x = refl
get_last (y ∷ ys) x = get_last ys x

get_before : (xs : List Named) (x : Named) (i : ℕ) → i < length xs → slice_get (xs ++ x ∷ []) i ≡ slice_get xs i
get_before [] x i lt = absurd (omega (arith, lt))
get_before (y ∷ ys) x zero lt = refl
get_before (y ∷ ys) x (suc i) lt = get_before ys x i (omega (arith, lt))

one_longer : (xs : List Named) (x : Named) → length (xs ++ x ∷ []) ≡ length xs + 1
one_longer [] x = refl
one_longer (y ∷ ys) x = let e = one_longer ys x in omega (arith, e)

-- a name has the number of before, or else the one behind all others
pub name_behind : (names : List Named) (name : List ℕ) (number : ℕ)
    → LearnsNumber names name number (names ++ (name, number) ∷ [])
name_behind [] name number query = ap (λ b. if b then Some number else None) (nat_list_eq_equiv.symm query name)
name_behind (x ∷ xs) name number query = by (bytes_eq query x.0) (name_behind xs name number query)
  where
    by : (here : Bool)
        → number_of (xs ++ (name, number) ∷ []) query ≡ option_or (number_of xs query) (number_for name number query)
        → (if here then Some x.1 else number_of (xs ++ (name, number) ∷ []) query)
        ≡ option_or (if here then Some x.1 else number_of xs query) (number_for name number query)
    by true rest = refl
    by false rest = rest

-- what a free slot tells of a name
free_none : (o : Option ℕ) (names others : List Named) (name : List ℕ) → is_free o ≡ true
    → number_by o names others name ≡ None
free_none None names others name e = cc
free_none (Some mark) names others name e =
    ap (λ b. cond b None (by_owner (slice_get names (mark - 1)) others name)) e

-- what an owned slot tells of a name
pub owned_slot : (o : Option ℕ) (mark : ℕ) (names others : List Named) (name : List ℕ) → o ≡ Some mark → mark ≢ 0
    → by_owner (slice_get names (mark - 1)) others name ≡ number_by o names others name
owned_slot o mark names others name is taken =
    ap (λ b. cond b None (by_owner (slice_get names (mark - 1)) others name)) (sym (by (nat_eq mark 0) refl))
    ∙ ap (λ p. number_by p names others name) (sym is)
  where
    by : (b : Bool) → nat_eq mark 0 ≡ b → b ≡ false
    by true e = absurd (taken (eqb-true mark 0 e))
    by false e = refl

-- what a slot tells of a name where there is one name more
more_names : (o : Option ℕ) (names others : List Named) (x : Named) (name : List ℕ)
    → ((mark : ℕ) → o ≡ Some mark → mark ≤ length names)
    → number_by o (names ++ x ∷ []) others name ≡ number_by o names others name
more_names None names others x name owned = refl
more_names (Some mark) names others x name owned = by (nat_eq mark 0) refl
  where
    by : (free : Bool) → nat_eq mark 0 ≡ free
        → cond free None (by_owner (slice_get (names ++ x ∷ []) (mark - 1)) others name)
        ≡ cond free None (by_owner (slice_get names (mark - 1)) others name)
    by true e = refl
    by false e =
        let taken = eqb-false mark 0 e in
        let inside = owned mark refl in
        ap (λ p. by_owner p others name) (get_before names x (mark - 1) (omega (arith, taken, inside)))

-- what a slot that isn't free tells of a name after the others have learnt one
more_others : (o : Option ℕ) (names others new : List Named) (name : List ℕ) (number : ℕ) (query : List ℕ)
    → is_free o ≡ false → LearnsNumber others name number new
    → number_by o names new query ≡ option_or (number_by o names others query) (number_for name number query)
more_others None names others new name number query e learns = learns query
more_others (Some mark) names others new name number query e learns =
    ap (λ b. cond b None (by_owner (slice_get names (mark - 1)) new query)) e
    ∙ by (slice_get names (mark - 1))
    ∙ ap (λ b. option_or (cond b None (by_owner (slice_get names (mark - 1)) others query))
    (number_for name number query)) (sym e)
  where
    by_name : (own : ℕ) (same : Bool) → (if same then Some own else number_of new query)
        ≡ option_or (if same then Some own else number_of others query) (number_for name number query)
    by_name own true = refl
    by_name own false = learns query

    by : (o : Option Named) → by_owner o new query
        ≡ option_or (by_owner o others query) (number_for name number query)
    by None = learns query
    by (Some owner) = by_name owner.1 (bytes_eq query owner.0)

-- a name with another key has no part in the number of this one
not_for : (mask : ℕ) (name query : List ℕ) (number : ℕ) → bit_and (key_of query) mask ≢ bit_and (key_of name) mask
    → number_for name number query ≡ None
not_for mask name query number ne = by (bytes_eq name query) refl
  where
    by : (same : Bool) → bytes_eq name query ≡ same → (if same then Some number else None) ≡ None
    by true is = absurd (ne (ap (λ n. bit_and (key_of n) mask) (sym (same_bytes name query is))))
    by false is = refl

-- slots of which all are free know no names
pub none_known : (mask count : ℕ) → FindsBySlots mask (replicate count 0) [] []
none_known mask count = record {
  found = λ name. by name (slice_get (replicate count 0) (bit_and (key_of name) mask));
  within = λ name e. refl;
  owned = λ slot mark e. zeroed count slot mark e;
}
  where
    by_free : (name : List ℕ) (free : Bool) → None ≡ cond free None (number_of [] name)
    by_free name true = refl
    by_free name false = refl

    by : (name : List ℕ) (o : Option ℕ) → None ≡ number_by o [] [] name
    by name None = refl
    by name (Some mark) = by_free name (nat_eq mark 0)

    zeroed : (count slot mark : ℕ) → slice_get (replicate count 0) slot ≡ Some mark → mark ≤ 0
    zeroed zero slot mark e = cc
    zeroed (suc count) zero mark e = let z : 0 ≡ mark = cc in omega (arith, z)
    zeroed (suc count) (suc slot) mark e = zeroed count slot mark e

module _ (mask : ℕ) (marks : List ℕ) (names others : List Named) (finds : FindsBySlots mask marks names others)
    (name : List ℕ) (number : ℕ) where
  abbrev slot : ℕ
  slot = bit_and (key_of name) mask

  abbrev all : List Named
  all = names ++ (name, number) ∷ []

  owned_longer : (mark : ℕ) → mark ≤ length names → mark ≤ length all
  owned_longer mark le = let e = one_longer names (name, number) in omega (arith, le, e)

  none_before : (query : List ℕ) → number_of all query ≡ None → number_of names query ≡ None
  none_before query none =
      none_of_first (number_of names query) (number_for name number query)
      (sym (name_behind names name number query) ∙ none)

  -- the name gets a free slot
  pub finds_placed : (mark : ℕ) → is_free (slice_get marks slot) ≡ true → mark ≡ length names + 1
      → FindsBySlots mask (set marks slot mark) all others
  finds_placed mark free behind = record {
    found = λ query. by query (nat_eq (bit_and (key_of query) mask) slot) refl;
    within = λ query none. finds.within query (none_before query none);
    owned = λ s m e. owned_by s m e (nat_eq s slot) refl;
  }
    where
      owned_by : (s m : ℕ) → slice_get (set marks slot mark) s ≡ Some m → (b : Bool) → nat_eq s slot ≡ b
          → m ≤ length all
      owned_by s m e true is =
          let here : slice_get (set marks slot mark) s ≡ Some mark =
          ap (slice_get (set marks slot mark)) (eqb-true s slot is) ∙ get_set_here marks slot mark free in
          let both : Some mark ≡ Some m = sym here ∙ e in
          let same : mark ≡ m = cc in
          let longer = one_longer names (name, number) in
          omega (arith, same, behind, longer)
      owned_by s m e false is =
          owned_longer m (finds.owned s m (sym (get_else marks slot s mark (eqb-false s slot is)) ∙ e))

      own : (query : List ℕ) → number_of names query ≡ None
          → number_for name number query ≡ number_by (Some mark) all others query
      own query none =
          ap (λ b. if b then Some number else None) (nat_list_eq_equiv.symm name query)
          ∙ ap (λ o. if bytes_eq query name then Some number else o) (sym (finds.within query none))
          ∙ ap (λ o. by_owner o others query) (sym (get_last names (name, number)))
          ∙ ap (λ i. by_owner (slice_get all i) others query) (omega (arith, behind))
          ∙ ap (λ b. cond b None (by_owner (slice_get all (mark - 1)) others query)) (sym (taken (nat_eq mark 0) refl))
        where
          taken : (b : Bool) → nat_eq mark 0 ≡ b → b ≡ false
          taken true is = let e = eqb-true mark 0 is in absurd (omega (arith, e, behind))
          taken false is = refl

      by : (query : List ℕ) (b : Bool) → nat_eq (bit_and (key_of query) mask) slot ≡ b
          → number_of all query
          ≡ number_by (slice_get (set marks slot mark) (bit_and (key_of query) mask)) all others query
      by query true is =
          let same = eqb-true (bit_and (key_of query) mask) slot is in
          let was_free = ap (λ s. is_free (slice_get marks s)) same ∙ free in
          let none = finds.found query
          ∙ free_none (slice_get marks (bit_and (key_of query) mask)) names others query was_free in
          name_behind names name number query
          ∙ ap (λ o. option_or o (number_for name number query)) none
          ∙ own query none
          ∙ ap (λ o. number_by o all others query)
          (sym (ap (slice_get (set marks slot mark)) same ∙ get_set_here marks slot mark free))
      by query false is =
          let ne = eqb-false (bit_and (key_of query) mask) slot is in
          name_behind names name number query
          ∙ ap (option_or (number_of names query)) (not_for mask name query number ne)
          ∙ or_none (number_of names query)
          ∙ finds.found query
          ∙ sym (more_names (slice_get marks (bit_and (key_of query) mask)) names others (name, number) query
          (finds.owned (bit_and (key_of query) mask)))
          ∙ ap (λ o. number_by o all others query) (sym (get_else marks slot (bit_and (key_of query) mask) mark ne))

  -- its slot isn't free, and the others learn it
  pub finds_learnt : (new : List Named) → is_free (slice_get marks slot) ≡ false → LearnsNumber others name number new
      → FindsBySlots mask marks all new
  finds_learnt new taken learns = record {
    found = λ query. name_behind names name number query
        ∙ ap (λ o. option_or o (number_for name number query)) (finds.found query)
        ∙ by query (is_free (slice_get marks (bit_and (key_of query) mask))) refl
        ∙ sym (more_names (slice_get marks (bit_and (key_of query) mask)) names new (name, number) query
        (finds.owned (bit_and (key_of query) mask)));
    within = λ query none. learns query
        ∙ ap (λ o. option_or o (number_for name number query)) (finds.within query (none_before query none))
        ∙ ap (λ o. option_or o (number_for name number query)) (sym (none_before query none))
        ∙ sym (name_behind names name number query) ∙ none;
    owned = λ s m e. owned_longer m (finds.owned s m e);
  }
    where
      by : (query : List ℕ) (b : Bool) → is_free (slice_get marks (bit_and (key_of query) mask)) ≡ b
          → option_or (number_by (slice_get marks (bit_and (key_of query) mask)) names others query)
          (number_for name number query)
          ≡ number_by (slice_get marks (bit_and (key_of query) mask)) names new query
      by query true free =
          let o = slice_get marks (bit_and (key_of query) mask) in
          ap (λ p. option_or p (number_for name number query)) (free_none o names others query free)
          ∙ not_for mask name query number
          (λ same. true≢false (sym free ∙ ap (λ s. is_free (slice_get marks s)) same ∙ taken))
          ∙ sym (free_none o names new query free)
      by query false is =
          sym (more_others (slice_get marks (bit_and (key_of query) mask)) names others new name number query is learns)
