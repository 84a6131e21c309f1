-- Merging groups one by one merges those of each id.
use Rattle.std.proofs.Common.{◌≡◌, Bool, true, false, cond, Some, None, List, [], ◌∷◌, refl, ap, sym, ◌∙◌, true≢false}
use Rattle.std.specs.BTreeMap.{insert_entry, is_at}
use Rattle.std.specs.Map.{keys_of, lookup}
use Rattle.std.specs.List.{AllByRecursion}
use Rattle.std.specs.Cmp.{IsTotalOrder}
use Rattle.std.specs.Ordering.{is_eq, match_ordering}
use Rattle.std.specs.declared.cmp.Ordering.{Ordering}
use Rattle.std.specs.declared.cmp.Ordering.TheVariants.{Less, Equal, Greater}
use Rattle.std.proofs.lemmas.Cmp.{alike_right}
use Rattle.std.proofs.lemmas.Map.Keys.{sorted_head, sorted_tail}
use Rattle.bp_props.specs.contracts.group_id.GroupIdOrd.TheImpl.Laws as laws
use Rattle.bp_props.specs.declared.group_id.GroupId.{GroupId}
use Rattle.bp_props.specs.declared.fields.GroupProps.{GroupProps}
use Rattle.bp_props.specs.declared.merge.Winner.{Winner}
use Rattle.bp_props.specs.Groups.{Ascends, by_id, group_of, group_put, groups_merged, put_behind, either_merged}
use Rattle.bp_props.specs.Groups.{EachMerged}

equal_of_is_eq : (r : Ordering) → is_eq r ≡ true → r ≡ Equal
equal_of_is_eq Less h = absurd (true≢false (sym h))
equal_of_is_eq Equal h = refl
equal_of_is_eq Greater h = absurd (true≢false (sym h))

cond_twice : {A : Type 0} (b : Bool) (x y z : A) → cond b x y ≡ cond b x (cond b z y)
cond_twice true x y z = refl
cond_twice false x y z = refl

cond_swapped : {A : Type 0} (a b : Bool) (x y z : A) → (a ≡ true → b ≡ true → ⊥)
    → cond b x (cond a y z) ≡ cond a y (cond b x z)
cond_swapped true true x y z apart = absurd (apart refl refl)
cond_swapped true false x y z apart = refl
cond_swapped false true x y z apart = refl
cond_swapped false false x y z apart = refl

module _ {K X : Type 0} (cmp : K → K → Ordering) (total : IsTotalOrder cmp) where
  -- keys that tie are found alike
  lookup-tied : (j k : K) (es : List (K × X)) → cmp j k ≡ Equal → lookup (is_at (cmp j)) es ≡ lookup (is_at (cmp k)) es
  lookup-tied j k es tie = ap (λ test. lookup (is_at test) es) (λ i z. total.congr j k z tie i)

  -- a key below all others is not among them
  pub lookup-below : (k : K) (es : List (K × X)) → AllByRecursion (λ y. cmp k y ≡ Less) (keys_of es)
      → lookup (is_at (cmp k)) es ≡ None
  lookup-below k [] below = refl
  lookup-below k (e ∷ es) below = rw (below.0) (lookup-below k es below.1)

  lookup-insert_entry : (es : List (K × X)) (k : K) (v : X) (q : K)
      → lookup (is_at (cmp q)) (insert_entry cmp es k v) ≡ cond (is_eq (cmp q k)) (Some v) (lookup (is_at (cmp q)) es)
  lookup-insert_entry [] k v q = refl
  lookup-insert_entry (e ∷ es) k v q = by (cmp k e.0) refl (lookup-insert_entry es k v q)
    where
      by : (r : Ordering) → cmp k e.0 ≡ r
          → lookup (is_at (cmp q)) (insert_entry cmp es k v) ≡ cond (is_eq (cmp q k)) (Some v)
          (lookup (is_at (cmp q)) es)
          → lookup (is_at (cmp q))
          (match_ordering r ((k, v) ∷ e ∷ es) ((e.0, v) ∷ es) (e ∷ insert_entry cmp es k v)) ≡ cond
          (is_eq (cmp q k)) (Some v) (lookup (is_at (cmp q)) (e ∷ es))
      by Less is later = refl
      by Equal is later = rw (alike_right total k e.0 q is)
          (cond_twice (is_eq (cmp q e.0)) (Some v) (lookup (is_at (cmp q)) es) (Some e.1))
      by Greater is later =
          rw later (cond_swapped (is_eq (cmp q k)) (is_eq (cmp q e.0)) (Some e.1) (Some v)
          (lookup (is_at (cmp q)) es) (λ a b.
          let first : cmp q k ≡ Equal = equal_of_is_eq (cmp q k) a in
          let second : cmp q e.0 ≡ Equal = equal_of_is_eq (cmp q e.0) b in
          let both : cmp q e.0 ≡ cmp k e.0 = total.congr q k e.0 first in
          cc))

head_merged : (winner : Winner) (groups : List (GroupId × GroupProps)) (e : GroupId × GroupProps)
    (others : List (GroupId × GroupProps)) (id : GroupId) → Ascends (e ∷ others)
    → either_merged winner (group_of (group_put winner groups e.0 e.1) id)
    (group_of others id) ≡ either_merged winner (group_of groups id) (group_of (e ∷ others) id)
head_merged winner groups e others id ascends =
    ap (λ group. either_merged winner group (group_of others id))
    (lookup-insert_entry by_id laws.total-law groups e.0 (put_behind winner (group_of groups e.0) e.1) id)
    ∙ by (is_eq (by_id id e.0)) refl
  where
    by : (tied : Bool) → is_eq (by_id id e.0) ≡ tied
        → either_merged winner
        (cond tied (Some (put_behind winner (group_of groups e.0) e.1)) (group_of groups id))
        (group_of others id) ≡ either_merged winner (group_of groups id)
        (cond tied (Some e.1) (group_of others id))
    by false is = refl
    by true is =
        let tie : by_id id e.0 ≡ Equal = equal_of_is_eq (by_id id e.0) is in
        let none : group_of others id ≡ None = lookup-tied by_id laws.total-law id e.0 others tie
        ∙ lookup-below by_id laws.total-law e.0 others (sorted_head by_id e.0 _ ascends) in
        ap (either_merged winner (Some (put_behind winner (group_of groups e.0) e.1))) none
        ∙ ap (λ group. Some (put_behind winner group e.1)) (sym (lookup-tied by_id laws.total-law id e.0 groups tie))

pub each_merged : (winner : Winner) (groups others : List (GroupId × GroupProps)) → Ascends others
    → EachMerged winner groups others (groups_merged winner groups others)
each_merged winner groups [] ascends id = refl
each_merged winner groups (e ∷ others) ascends id =
    each_merged winner (group_put winner groups e.0 e.1) others (sorted_tail by_id e.0 _ ascends) id
    ∙ head_merged winner groups e others id ascends
