-- What a walk over the rows of a table finds that begins where the first bytes are those of the name.
use Rattle.std.proofs.Common.{◌≡◌, ℕ, ◌+◌, ◌<◌, ◌≤◌, Bool, true, false, cond, IsTrue, Option, Some, None, List, [], ◌∷◌}
use Rattle.std.proofs.Common.{suc, zero, length, get_or, map, option_map, refl, ap, sym, ◌∙◌, arith, drop, Bor, ltb}
use Rattle.std.proofs.Common.{true≢false, ltb-true, ◌⊎◌, inl, inr}
use Rattle.std.specs.Prelude.{find, filter, ◌&&◌}
use Rattle.std.specs.List.{AllAdjacentBelow}
use Rattle.std.specs.List.Sorted.{IsPartitionedBy, IsPartitionPoint}
use Rattle.std.specs.Str.{bytes_eq}
use Rattle.std.specs.Ordering.{nat_cmp, is_lt}
use Rattle.std.specs.Cmp.Lexicographic.{slice_cmp}
use Rattle.std.proofs.lemmas.Bool.{and_parts, cases_lt, lt-ltb, le-ltb, ne_eqb}
use Rattle.std.proofs.lemmas.List.Sorted.{IsNonDecreasingBy-from_all_adjacent, IsPartitionedBy-ltb}
use Rattle.property_tables.specs.declared.offer.Offer.{Offer}
use Rattle.property_tables.specs.declared.offer.Wanted.{Wanted}
use Rattle.property_tables.specs.Inside.{first_rank, offered_of, is_wanted, wanted_in}
use Rattle.property_tables.specs.Tables.{property_of, property_named, names_ascend}

module _ {X Y : Type 0} (test : Y → Bool) (f : X → Y) where
  mapped : (b : Bool) (x : X) (found : Option Y) (there : Option X) → found ≡ option_map f there
      → cond b (Some (f x)) found ≡ option_map f (cond b (Some x) there)
  mapped true x found there same = refl
  mapped false x found there same = same

  find-map : (xs : List X) → find test (map f xs) ≡ option_map f (find (λ x. test (f x)) xs)
  find-map [] = refl
  find-map (x ∷ xs) = mapped (test (f x)) x (find test (map f xs)) (find (λ y. test (f y)) xs) (find-map xs)

module _ {X : Type 0} (p q : X → Bool) where
  both_of : (a : Bool) (x : X) (found there : Option X) → found ≡ there
      → cond a (Some x) found ≡ cond (a && true) (Some x) there
  both_of true x found there same = refl
  both_of false x found there same = same

  neither : (a : Bool) (x : X) (found there : Option X) → found ≡ there → found ≡ cond (a && false) (Some x) there
  neither true x found there same = same
  neither false x found there same = same

  find-filter : (xs : List X) → find p (filter q xs) ≡ find (λ x. p x && q x) xs
  find-filter [] = refl
  find-filter (x ∷ xs) = by (q x) (find-filter xs)
    where
      by : (b : Bool) → find p (filter q xs) ≡ find (λ y. p y && q y) xs
          → find p (cond b (x ∷ filter q xs) (filter q xs)) ≡ cond (p x && b) (Some x) (find (λ y. p y && q y) xs)
      by true same = both_of (p x) x (find p (filter q xs)) (find (λ y. p y && q y) xs) same
      by false same = neither (p x) x (find p (filter q xs)) (find (λ y. p y && q y) xs) same

made_twice : {X Y Z : Type 0} (f : Y → Z) (g : X → Y) (o : Option X)
    → option_map f (option_map g o) ≡ option_map (λ x. f (g x)) o
made_twice f g None = refl
made_twice f g (Some x) = refl

-- where none of the first few passes, what is found is found behind them
find-drop : {X : Type 0} (test : X → Bool) (i : ℕ) (xs : List X) → i ≤ length xs
    → ((j : ℕ) (d : X) → j < i → test (get_or xs j d) ≡ false) → find test (drop i xs) ≡ find test xs
find-drop test zero xs within none = refl
find-drop test (suc i) [] within none = absurd (omega arith)
find-drop test (suc i) (x ∷ xs) within none =
    rw (none 0 x (omega arith)) (find-drop test i xs (omega arith) (λ j d before. none (suc j) d (omega arith)))

-- a name that ranks lower is another name
lower_is_other : (x y : List ℕ) → first_rank x < first_rank y → bytes_eq x y ≡ false
lower_is_other [] [] lower = absurd (omega arith)
lower_is_other [] (b ∷ y) lower = refl
lower_is_other (a ∷ x) [] lower = refl
lower_is_other (a ∷ x) (b ∷ y) lower = rw (ne_eqb a b (λ same. omega arith)) refl

-- names that ascend don't fall in rank
rank_step : (x y : List ℕ) → is_lt (slice_cmp nat_cmp x y) ≡ true → first_rank x ≤ first_rank y
rank_step [] y less = omega arith
rank_step (a ∷ x) [] less = absurd (true≢false (sym less))
rank_step (a ∷ x) (b ∷ y) less = by (cases_lt b a)
  where
    by : (b < a) ⊎ (a ≤ b) → a + 1 ≤ b + 1
    by (inl lower) = absurd (true≢false (sym less ∙ grind (arith, lt-ltb b a lower, le-ltb a b)))
    by (inr upper) = omega arith

ranks_ascend : (rows : List Offer) → IsTrue (names_ascend (map (λ o. property_of o.row) rows))
    → AllAdjacentBelow (λ a b. first_rank a.row.name.now ≤ first_rank b.row.name.now) rows (length rows)
ranks_ascend [] ascends k d within = absurd (omega arith)
ranks_ascend (p ∷ []) ascends k d within = absurd (omega arith)
ranks_ascend (p ∷ q ∷ more) ascends zero d within =
    rank_step p.row.name.now q.row.name.now
    (and_parts (is_lt (slice_cmp nat_cmp p.row.name.now q.row.name.now))
    (names_ascend (map (λ o. property_of o.row) (q ∷ more))) ascends).0
ranks_ascend (p ∷ q ∷ more) ascends (suc k) d within =
    let rest = ranks_ascend (q ∷ more)
    (and_parts (is_lt (slice_cmp nat_cmp p.row.name.now q.row.name.now))
    (names_ascend (map (λ o. property_of o.row) (q ∷ more))) ascends).1
    k d (omega arith) in
    let place : suc k + 1 ≡ suc (k + 1) = omega arith in
    rw place rest

-- the rows are parted by whether they rank lower
pub rows_parted : (rows : List Offer) (rank : ℕ) → IsTrue (names_ascend (map (λ o. property_of o.row) rows))
    → IsPartitionedBy (λ row. ltb (first_rank row.row.name.now) rank) rows
rows_parted rows rank ascends =
    IsPartitionedBy-ltb (λ row. first_rank row.row.name.now) rows rank
    (IsNonDecreasingBy-from_all_adjacent (λ row. first_rank row.row.name.now) rows (ranks_ascend rows ascends))

-- what has a name among the properties of some rows is the first row that has it and is wanted
named-wanted : (wanted : Wanted) (rows : List Offer) (name : List ℕ) → property_named (wanted_in wanted rows) name
    ≡ option_map (λ o. property_of o.row)
    (find (λ o. bytes_eq o.row.name.now name && is_wanted wanted (offered_of o)) rows)
named-wanted wanted rows name =
    find-map (λ p. bytes_eq p.name name) (λ o. o.property) (filter (is_wanted wanted) (map offered_of rows))
    ∙ ap (option_map (λ o. o.property))
    (find-filter (λ o. bytes_eq o.property.name name) (is_wanted wanted) (map offered_of rows)
    ∙ find-map (λ o. bytes_eq o.property.name name && is_wanted wanted o) offered_of rows)
    ∙ made_twice (λ o. o.property) offered_of
    (find (λ o. bytes_eq o.row.name.now name && is_wanted wanted (offered_of o)) rows)

behind_loan : (found : Option (Bor Offer)) → option_map property_of (option_map (λ o. o.now.row) found)
    ≡ option_map (λ o. property_of o.row) (option_map (λ o. o.now) found)
behind_loan None = refl
behind_loan (Some offer) = refl

-- the first row that has the name and is wanted, from where the rows don't rank lower, is the property of the name
pub first_row : (wanted : Wanted) (rows : List Offer) (name : List ℕ) (start : ℕ) (found : Option (Bor Offer))
    → start ≤ length rows
    → IsPartitionPoint (λ o. ltb (first_rank o.row.name.now) (first_rank name) ≡ true)
    (λ o. ltb (first_rank o.row.name.now) (first_rank name) ≡ false) rows start
    → option_map (λ o. o.now) found
    ≡ find (λ o. bytes_eq o.row.name.now name && is_wanted wanted (offered_of o)) (drop start rows)
    → option_map property_of (option_map (λ o. o.now.row) found) ≡ property_named (wanted_in wanted rows) name
first_row wanted rows name start found within parted is = behind_loan found
    ∙ ap (option_map (λ o. property_of o.row))
    (is ∙ find-drop (λ o. bytes_eq o.row.name.now name && is_wanted wanted (offered_of o)) start rows within
    (λ j d before. rw (lower_is_other (get_or rows j d).row.name.now name
    (ltb-true (first_rank (get_or rows j d).row.name.now) (first_rank name) (parted.0 j d (omega arith) before))) refl))
    ∙ sym (named-wanted wanted rows name)
