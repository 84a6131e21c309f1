-- Where an id is among ascending pairs, and what a change there makes of them.
use Rattle.std.proofs.Common.{◌≡◌, ℕ, ◌+◌, ◌<◌, ◌≤◌, Bool, true, false, cond, Some, None, Result, Ok, Err, List, []}
use Rattle.std.proofs.Common.{◌∷◌, suc, length, get_or, set, refl, ap, sym, ◌∙◌, subst, arith}
use Rattle.std.specs.Prelude.{filter}
use Rattle.std.specs.Map.{keys_of}
use Rattle.std.specs.List.{AllByRecursion, AllWithin, insert}
use Rattle.std.specs.List.Sorted.{IsStrictlySortedBy, IsNonDecreasingBy, IsSearchInRange}
use Rattle.std.specs.List.Sorted.{IsBinarySearchResult}
use Rattle.std.specs.Ordering.{is_lt, match_ordering, ordering_reverse, ordering_index}
use Rattle.std.specs.declared.cmp.Ordering.{Ordering}
use Rattle.std.specs.declared.cmp.Ordering.TheVariants.{Less, Equal, Greater}
use Rattle.std.proofs.lemmas.Cmp.{alike_right}
use Rattle.std.proofs.lemmas.Map.Keys.{sorted_head, sorted_tail}
use Rattle.std.proofs.lemmas.List.Kept.{IsStrictlySortedBy-filter}
use Rattle.std.proofs.lemmas.List.Sorted.{searchable_from_sorted}
use Rattle.bp_props.specs.contracts.group_id.GroupIdOrd.TheImpl.Laws as laws
use Rattle.bp_props.specs.declared.group_id.GroupId.{GroupId}
use Rattle.bp_props.specs.declared.fields.GroupProps.{GroupProps}
use Rattle.bp_props.specs.Groups.{Ascends, by_id, group_of, groups_with}
use Rattle.bp_props.specs.Inside.{index_of, one_further}
use Rattle.bp_props.proofs.Each.{lookup-below}

-- ascending pairs

pub ascends_none : Ascends []
unfolding IsStrictlySortedBy
ascends_none = tt

below_all : (x y : GroupId) (ids : List GroupId) → by_id x y ≡ Less
    → AllByRecursion (λ z. by_id y z ≡ Less) ids → AllByRecursion (λ z. by_id x z ≡ Less) ids
below_all x y [] less all = tt
below_all x y (z ∷ ids) less all = (laws.total-law.trans x y z less all.0, below_all x y ids less all.1)

all_inserted : (P : GroupId → Type 0) (id : GroupId) (g : GroupProps) (pairs : List (GroupId × GroupProps))
    → P id → AllByRecursion P (keys_of pairs) → AllByRecursion P (keys_of (groups_with pairs id g))
all_inserted P id g [] here all = (here, tt)
all_inserted P id g (e ∷ pairs) here all = by (by_id id e.0) (all_inserted P id g pairs here all.1)
  where
    by : (r : Ordering) → AllByRecursion P (keys_of (groups_with pairs id g))
        → AllByRecursion P
        (keys_of (match_ordering r ((id, g) ∷ e ∷ pairs) ((e.0, g) ∷ pairs) (e ∷ groups_with pairs id g)))
    by Less rest = (here, all)
    by Equal rest = all
    by Greater rest = (all.0, rest)

pub ascends_with : (id : GroupId) (g : GroupProps) (pairs : List (GroupId × GroupProps)) → Ascends pairs
    → Ascends (groups_with pairs id g)
unfolding IsStrictlySortedBy
ascends_with id g [] ascends = (tt, tt)
ascends_with id g (e ∷ pairs) ascends = by (by_id id e.0) refl (ascends_with id g pairs ascends.1)
  where
    by : (r : Ordering) → by_id id e.0 ≡ r → Ascends (groups_with pairs id g)
        → Ascends (match_ordering r ((id, g) ∷ e ∷ pairs) ((e.0, g) ∷ pairs) (e ∷ groups_with pairs id g))
    by Less is rest = ((is, below_all id e.0 (keys_of pairs) is ascends.0), ascends)
    by Equal is rest = ascends
    by Greater is rest = (
      all_inserted (λ y. by_id e.0 y ≡ Less) id g pairs
          (laws.total-law.antisymm e.0 id ∙ ap ordering_reverse is) ascends.0,
      rest,
    )

keys_of-filter : (p : GroupId → Bool) (pairs : List (GroupId × GroupProps))
    → keys_of (filter (λ e. p e.0) pairs) ≡ filter p (keys_of pairs)
keys_of-filter p [] = refl
keys_of-filter p (e ∷ pairs) = by (p e.0) (keys_of-filter p pairs)
  where
    by : (b : Bool) → keys_of (filter (λ e. p e.0) pairs) ≡ filter p (keys_of pairs)
        → keys_of (cond b (e ∷ filter (λ e. p e.0) pairs) (filter (λ e. p e.0) pairs)) ≡ cond b
        (e.0 ∷ filter p (keys_of pairs)) (filter p (keys_of pairs))
    by true rest = ap (λ ids. e.0 ∷ ids) rest
    by false rest = rest

pub ascends_filtered : (p : GroupId → Bool) (pairs : List (GroupId × GroupProps)) → Ascends pairs
    → Ascends (filter (λ e. p e.0) pairs)
ascends_filtered p pairs ascends = subst (IsStrictlySortedBy by_id) (sym (keys_of-filter p pairs))
    (IsStrictlySortedBy-filter by_id p (keys_of pairs) ascends)

-- what a binary search finds

key_at : (P : GroupId → Type 0) (pairs : List (GroupId × GroupProps)) (i : ℕ) (d : GroupId × GroupProps)
    → AllByRecursion P (keys_of pairs) → i < length pairs → P (get_or pairs i d).0
key_at P [] i d all within = absurd (omega arith)
key_at P (e ∷ pairs) Prim.Native.Nat.zero d all within = all.0
key_at P (e ∷ pairs) (suc i) d all within = key_at P pairs i d all.1 (omega arith)

next_above : (pairs : List (GroupId × GroupProps)) (i : ℕ) (d : GroupId × GroupProps) → Ascends pairs
    → suc i < length pairs → by_id (get_or pairs i d).0 (get_or pairs (suc i) d).0 ≡ Less
next_above [] i d ascends within = absurd (omega arith)
next_above (e ∷ pairs) Prim.Native.Nat.zero d ascends within = key_at (λ y. by_id e.0 y ≡ Less) pairs 0 d
    (sorted_head by_id e.0 _ ascends) (omega arith)
next_above (e ∷ pairs) (suc i) d ascends within = next_above pairs i d (sorted_tail by_id e.0 _ ascends) (omega arith)

pub searchable : (pairs : List (GroupId × GroupProps)) (id : GroupId) → Ascends pairs
    → IsNonDecreasingBy (λ e. ordering_index (by_id e.0 id)) pairs
searchable pairs id ascends =
    searchable_from_sorted laws.total-law (λ e. e.0) pairs id (λ k d low within.
    let further : suc k ≡ k + 1 = omega arith in
    subst (λ n. is_lt (by_id (get_or pairs n d).0 (get_or pairs k d).0) ≡ false) further
    (ap is_lt
    (laws.total-law.antisymm (get_or pairs (suc k) d).0 (get_or pairs k d).0
    ∙ ap ordering_reverse (next_above pairs k d ascends (omega arith)))))

pub found : (pairs : List (GroupId × GroupProps)) (id : GroupId) (i : ℕ) (d : GroupId × GroupProps)
    → Ascends pairs → i < length pairs → by_id (get_or pairs i d).0 id ≡ Equal → index_of pairs id ≡ Ok i
found [] id i d ascends within is = absurd (omega arith)
found (e ∷ pairs) id Prim.Native.Nat.zero d ascends within is =
    rw (laws.total-law.antisymm id e.0 ∙ ap ordering_reverse is) refl
found (e ∷ pairs) id (suc i) d ascends within is =
    let less = key_at (λ y. by_id e.0 y ≡ Less) pairs i d (sorted_head by_id e.0 _ ascends) (omega arith) in
    let below : by_id e.0 id ≡ Less = sym (alike_right laws.total-law (get_or pairs i d).0 id e.0 is) ∙ less in
    rw (laws.total-law.antisymm id e.0 ∙ ap ordering_reverse below)
    (ap one_further (found pairs id i d (sorted_tail by_id e.0 _ ascends) (omega arith) is))

pub missed : (pairs : List (GroupId × GroupProps)) (id : GroupId) (i : ℕ) → i ≤ length pairs
    → AllWithin (λ e. by_id e.0 id ≡ Less) pairs 0 i
    → AllWithin (λ e. by_id e.0 id ≡ Greater) pairs i (length pairs) → index_of pairs id ≡ Err i
missed [] id Prim.Native.Nat.zero within before after = refl
missed [] id (suc i) within before after = absurd (omega arith)
missed (e ∷ pairs) id Prim.Native.Nat.zero within before after =
    rw (laws.total-law.antisymm id e.0 ∙ ap ordering_reverse (after 0 e (omega arith) (omega arith))) refl
missed (e ∷ pairs) id (suc i) within before after =
    rw (laws.total-law.antisymm id e.0 ∙ ap ordering_reverse (before 0 e (omega arith) (omega arith)))
    (ap one_further
    (missed pairs id i (omega arith) (λ k d low high. before (suc k) d (omega arith) (omega arith))
    (λ k d low high. after (suc k) d (omega arith) (omega arith))))

-- what holds at the index of an id

abbrev pub At : List (GroupId × GroupProps) → GroupId → Result ℕ ℕ → Type 0
At pairs id (Ok i) =
    (i < length pairs) × ((d : GroupId × GroupProps) → group_of pairs id ≡ Some (get_or pairs i d).1)
    × ((g : GroupProps) (d : GroupId × GroupProps) → set pairs i ((get_or pairs i d).0, g) ≡ groups_with pairs id g)
At pairs id (Err i) =
    (i ≤ length pairs) × (group_of pairs id ≡ None)
    × ((g : GroupProps) → insert pairs i (id, g) ≡ groups_with pairs id g)

pub at : (pairs : List (GroupId × GroupProps)) (id : GroupId) → Ascends pairs → At pairs id (index_of pairs id)
at [] id ascends = (omega arith, refl, λ g. refl)
at (e ∷ pairs) id ascends = by (by_id id e.0) refl (index_of pairs id) (at pairs id (sorted_tail by_id e.0 _ ascends))
  where
    by : (r : Ordering) → by_id id e.0 ≡ r → (index : Result ℕ ℕ) → At pairs id index
        → At (e ∷ pairs) id (match_ordering r (Err 0) (Ok 0) (one_further index))
    by Less is index rest = (
      omega arith,
      rw is
          (lookup-below by_id laws.total-law id pairs
          (below_all id e.0 (keys_of pairs) is (sorted_head by_id e.0 _ ascends))),
      λ g. rw is refl,
    )
    by Equal is index rest = (omega arith, (λ d. rw is refl), λ g d. rw is refl)
    by Greater is (Ok i) rest =
        (omega (arith, rest.0), (λ d. rw is (rest.1 d)), λ g d. rw is (ap (λ es. e ∷ es) (rest.2 g d)))
    by Greater is (Err i) rest = (omega (arith, rest.0), rw is (rest.1), λ g. rw is (ap (λ es. e ∷ es) (rest.2 g)))

-- a change at an index, and back

pub at_index : (pairs slice : List (GroupId × GroupProps)) (id : GroupId) (r index : Result ℕ ℕ)
    → Ascends pairs → slice ≡ pairs → r ≡ index_of slice id → r ≡ index → At pairs id index
at_index pairs slice id r index ascends same is was =
    subst (At pairs id) (sym (is ∙ ap (λ es. index_of es id) same) ∙ was) (at pairs id ascends)

pub search_gives_index : (pairs : List (GroupId × GroupProps)) (id : GroupId) (r : Result ℕ ℕ) → Ascends pairs
    → IsSearchInRange r (length pairs) → IsBinarySearchResult (λ e. by_id e.0 id) pairs r → r ≡ index_of pairs id
search_gives_index [] id (Ok i) ascends within is = absurd (omega arith)
search_gives_index (e ∷ pairs) id (Ok i) ascends within is = sym (found (e ∷ pairs) id i e ascends within (is e))
search_gives_index pairs id (Err i) ascends within is = let parts = is (searchable pairs id ascends) in
    sym (missed pairs id i within parts.0 parts.1)

pub set_at : (pairs : List (GroupId × GroupProps)) (id : GroupId) (i : ℕ) (x : GroupId × GroupProps)
    (g : GroupProps) → At pairs id (Ok i) → x ≡ get_or pairs i x → set pairs i (x.0, g) ≡ groups_with pairs id g
set_at pairs id i x g here is = ap (λ (e : GroupId × GroupProps). set pairs i (e.0, g)) is ∙ here.2 g x

keys_of-set : (pairs : List (GroupId × GroupProps)) (i : ℕ) (x : GroupId × GroupProps) (g : GroupProps)
    → i < length pairs → x ≡ get_or pairs i x → keys_of (set pairs i (x.0, g)) ≡ keys_of pairs
keys_of-set [] i x g within is = absurd (omega arith)
keys_of-set (e ∷ pairs) Prim.Native.Nat.zero x g within is =
    ap (λ (y : GroupId × GroupProps). y.0 ∷ keys_of pairs) is
keys_of-set (e ∷ pairs) (suc i) x g within is = ap (λ ks. e.0 ∷ ks) (keys_of-set pairs i x g (omega arith) is)

-- The ids ascend where another group stands under one of them.
pub ascends_replaced : (pairs : List (GroupId × GroupProps)) (i : ℕ) (x : GroupId × GroupProps) (g : GroupProps)
    → i < length pairs → x ≡ get_or pairs i x → Ascends pairs → Ascends (set pairs i (x.0, g))
ascends_replaced pairs i x g within is ascends =
    subst (IsStrictlySortedBy by_id) (sym (keys_of-set pairs i x g within is)) ascends
