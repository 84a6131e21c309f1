-- Directories in order: those that compare equal are the same, and what is put in its place keeps the order.
use Rattle.std.proofs.Common.{◌≡◌, ℕ, List, [], ◌∷◌, refl, ap, ◌∙◌}
use Rattle.std.specs.List.{AllByRecursion}
use Rattle.std.specs.List.Sorted.{IsStrictlySortedBy}
use Rattle.std.specs.Map.{keys_of}
use Rattle.std.specs.BTreeMap.{insert_entry}
use Rattle.std.specs.declared.cmp.Ordering.{Ordering}
use Rattle.std.specs.declared.cmp.Ordering.TheVariants.{Less, Equal, Greater}
use Rattle.std.specs.Ordering.{nat_cmp, match_ordering, ordering_then, ordering_reverse}
use Rattle.std.specs.Cmp.{IsTotalOrder}
use Rattle.std.specs.Cmp.Lexicographic.{slice_cmp}
use Rattle.std.proofs.lemmas.Cmp.{nat_list_cmp_total, lists_total}
use Rattle.std.proofs.lemmas.Map.Lookups.{exact_bytes}
use Rattle.bp_load.specs.Directories.{directory_cmp}

pub directories_total : IsTotalOrder directory_cmp
directories_total = lists_total nat_list_cmp_total

-- directories that compare equal are the same
pub exact_directories : (a b : List (List ℕ)) → directory_cmp a b ≡ Equal → a ≡ b
exact_directories [] [] e = refl
exact_directories [] (y ∷ ys) e = cc
exact_directories (x ∷ xs) [] e = cc
exact_directories (x ∷ xs) (y ∷ ys) e = by (slice_cmp nat_cmp x y) refl e (λ same. exact_directories xs ys same)
  where
    by : (o : Ordering) → slice_cmp nat_cmp x y ≡ o → ordering_then o (directory_cmp xs ys) ≡ Equal
        → (directory_cmp xs ys ≡ Equal → xs ≡ ys) → (x ∷ xs) ≡ (y ∷ ys)
    by Less is e more = cc
    by Equal is e more = let head : x ≡ y = exact_bytes x y is in let tail : xs ≡ ys = more e in cc
    by Greater is e more = cc

-- what stands behind a key stands behind every key before that

behind_all : {X : Type 0} (R : X → X → Ordering) (o : IsTotalOrder R) (k a : X) (keys : List X) → R k a ≡ Less
    → AllByRecursion (λ y. R a y ≡ Less) keys → AllByRecursion (λ y. R k y ≡ Less) keys
behind_all R o k a [] before all = tt
behind_all R o k a (b ∷ keys) before all = (o.trans k a b before all.0, behind_all R o k a keys before all.1)

turned : {X : Type 0} (R : X → X → Ordering) (o : IsTotalOrder R) (k a : X) → R k a ≡ Greater → R a k ≡ Less
turned R o k a e = o.antisymm a k ∙ ap ordering_reverse e

all_insert : {K X : Type 0} (R : K → K → Ordering) (a k : K) (v : X) (es : List (K × X)) → R a k ≡ Less
    → AllByRecursion (λ y. R a y ≡ Less) (keys_of es)
    → AllByRecursion (λ y. R a y ≡ Less) (keys_of (insert_entry R es k v))
all_insert R a k v [] before all = (before, tt)
all_insert {K} {X} R a k v (e ∷ es) before all = by (R k e.0) (all_insert R a k v es before all.1)
  where
    by : (o : Ordering) → AllByRecursion (λ y. R a y ≡ Less) (keys_of (insert_entry R es k v)) → AllByRecursion (λ y.
        R a y ≡ Less) (keys_of (match_ordering o ((k, v) ∷ e ∷ es) ((e.0, v) ∷ es) (e ∷ insert_entry R es k v)))
    by Less more = (before, all)
    by Equal more = all
    by Greater more = (all.0, more)

-- an entry is put where its key stands
pub sorted_insert : {K X : Type 0} (R : K → K → Ordering) (o : IsTotalOrder R) (k : K) (v : X) (es : List (K × X))
    → IsStrictlySortedBy R (keys_of es) → IsStrictlySortedBy R (keys_of (insert_entry R es k v))
unfolding IsStrictlySortedBy
sorted_insert R o k v [] sorted = (tt, tt)
sorted_insert R o k v (e ∷ es) sorted = by (R k e.0) refl (sorted_insert R o k v es sorted.1)
  where
    by : (at : Ordering) → R k e.0 ≡ at → IsStrictlySortedBy R (keys_of (insert_entry R es k v)) → IsStrictlySortedBy R
        (keys_of (match_ordering at ((k, v) ∷ e ∷ es) ((e.0, v) ∷ es) (e ∷ insert_entry R es k v)))
    by Less is rest = ((is, behind_all R o k e.0 (keys_of es) is sorted.0), sorted)
    by Equal is rest = sorted
    by Greater is rest = (all_insert R e.0 k v es (turned R o k e.0 is) sorted.0, rest)
