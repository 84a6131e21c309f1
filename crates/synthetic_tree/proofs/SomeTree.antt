-- Blocks that differ are put in order one by one, so a seed has a tree.
use Rattle.std.proofs.Common.{◌≡◌, ◌∙◌, false, List, [], ◌∷◌, map, ap, refl, arith, if◌then◌else◌}
use Rattle.std.specs.List.{AllByRecursion, IsDistinct, range_with_len}
use Rattle.std.specs.List.Sorted.{IsPermutation, IsStrictlySortedBy}
use Rattle.std.specs.Ordering.{eq_by_cmp, is_eq, is_gt, ordering_reverse}
use Rattle.std.specs.declared.cmp.Ordering.{Ordering}
use Rattle.std.specs.declared.cmp.Ordering.TheVariants.{Less, Equal, Greater}
use Rattle.std.proofs.lemmas.Cmp.{nat_list_cmp_total}
use Rattle.std.proofs.lemmas.List.Elements.{All-from_recursion, recursion_from_All}
use Rattle.std.proofs.lemmas.List.Sorted.{All-permutation, IsPermutation-cons, IsPermutation-middle}
use Rattle.std.proofs.lemmas.List.Sorted.{IsPermutation-refl, IsPermutation-trans}
use Rattle.synthetic_tree.specs.Blocks.{block_cmp, block_count, block_directory, block_file}
use Rattle.synthetic_tree.specs.Laws.{SomeTree}
use Rattle.synthetic_tree.proofs.Lengths.{at_if}
use Rattle.synthetic_tree.proofs.Order.{range_differs}

module _ {X : Type 0} (R : X → X → Ordering) (turns : (x y : X) → R x y ≡ Greater → R y x ≡ Less)
    (trans : (x y z : X) → R x y ≡ Less → R y z ≡ Less → R x z ≡ Less) where
  -- An item is put before the first that it isn't above.
  abbrev put_in : X → List X → List X
  put_in x [] = x ∷ []
  put_in x (y ∷ ys) = if is_gt (R x y) then y ∷ put_in x ys else x ∷ y ∷ ys

  all-put_in : (P : X → Type 0) (x : X) (ys : List X) → P x → AllByRecursion P ys → AllByRecursion P (put_in x ys)
  all-put_in P x [] here all = (here, tt)
  all-put_in P x (y ∷ ys) here all =
      at_if (λ (l : List X). AllByRecursion P l) (is_gt (R x y)) (y ∷ put_in x ys) (x ∷ y ∷ ys)
      (all.0, all-put_in P x ys here all.1) (here, all)

  IsPermutation-put_in : (x : X) (ys : List X) → IsPermutation (x ∷ ys) (put_in x ys)
  IsPermutation-put_in x [] = IsPermutation-refl (x ∷ [])
  IsPermutation-put_in x (y ∷ ys) =
      at_if (λ (l : List X). IsPermutation (x ∷ y ∷ ys) l) (is_gt (R x y)) (y ∷ put_in x ys) (x ∷ y ∷ ys)
      (IsPermutation-trans (x ∷ y ∷ ys) (y ∷ x ∷ ys) (y ∷ put_in x ys) (IsPermutation-middle (x ∷ []) y ys)
      (IsPermutation-cons y (x ∷ ys) (put_in x ys) (IsPermutation-put_in x ys)))
      (IsPermutation-refl (x ∷ y ∷ ys))

  -- what is below an item is below all that the item is below
  below_all : (x y : X) (zs : List X) → R x y ≡ Less → AllByRecursion (λ z. R y z ≡ Less) zs
      → AllByRecursion (λ z. R x z ≡ Less) zs
  below_all x y [] less all = tt
  below_all x y (z ∷ zs) less all = (trans x y z less all.0, below_all x y zs less all.1)

  -- ascending items, with one more that is compared with the first
  ascending_at : (x y : X) (ys : List X) (o : Ordering) → R x y ≡ o → is_eq o ≡ false
      → AllByRecursion (λ z. R y z ≡ Less) ys → IsStrictlySortedBy R ys → IsStrictlySortedBy R (put_in x ys)
      → IsStrictlySortedBy R (if is_gt o then y ∷ put_in x ys else x ∷ y ∷ ys)
  unfolding IsStrictlySortedBy
  ascending_at x y ys Less is apart all up more = ((is, below_all x y ys is all), (all, up))
  ascending_at x y ys Equal is apart all up more = absurd (cc)
  ascending_at x y ys Greater is apart all up more =
      (all-put_in (λ z. R y z ≡ Less) x ys (turns x y is) all, more)

  ascending-put_in : (x : X) (ys : List X) → AllByRecursion (λ y. eq_by_cmp R x y ≡ false) ys
      → IsStrictlySortedBy R ys → IsStrictlySortedBy R (put_in x ys)
  unfolding IsStrictlySortedBy
  ascending-put_in x [] apart up = (tt, tt)
  ascending-put_in x (y ∷ ys) apart up =
      ascending_at x y ys (R x y) refl apart.0 up.0 up.1 (ascending-put_in x ys apart.1 up.1)

  -- Items that differ ascend in some order.
  pub in_some_order : (xs : List X) → IsDistinct (eq_by_cmp R) xs
      → (ys : List X) × IsPermutation xs ys × IsStrictlySortedBy R ys
  unfolding IsDistinct IsStrictlySortedBy
  in_some_order [] differ = ([], IsPermutation-refl [], tt)
  in_some_order (x ∷ xs) differ =
      let rest = in_some_order xs differ.1 in
      let Apart = λ (y : X). eq_by_cmp R x y ≡ false in
      let apart : AllByRecursion Apart rest.0 =
      recursion_from_All Apart rest.0
      (All-permutation Apart xs rest.0 rest.1 (All-from_recursion Apart xs differ.0)) in (
        put_in x rest.0,
        IsPermutation-trans (x ∷ xs) (x ∷ rest.0) (put_in x rest.0) (IsPermutation-cons x xs rest.0 rest.1)
            (IsPermutation-put_in x rest.0),
        ascending-put_in x rest.0 apart rest.2,
      )

pub some_tree : SomeTree
some_tree seed modules few =
    let order =
    in_some_order block_cmp
    (λ a b above. nat_list_cmp_total.antisymm (block_directory b) (block_directory a) ∙ ap ordering_reverse above)
    (λ a b c. nat_list_cmp_total.trans (block_directory a) (block_directory b) (block_directory c))
    (range_with_len 0 (block_count modules)) (range_differs (block_count modules) (omega arith)) in
    (map (block_file seed modules) order.0, (order.0, order.1, order.2, refl))
