-- A sort and a dedup: the texts ascend, and are the same.
use Rattle.std.proofs.Common.{◌≡◌, ◌↔◌, ℕ, List, [], sym, subst}
use Rattle.std.specs.List.{Contains, dedup}
use Rattle.std.specs.List.Retain.{DiffersFromLast, IsFiltered}
use Rattle.std.specs.List.Sorted.{IsPermutation, IsSorted, IsStrictlySortedBy}
use Rattle.std.specs.Ordering.{nat_cmp}
use Rattle.std.specs.Cmp.Lexicographic.{slice_cmp, texts_ties}
use Rattle.std.specs.Str.{bytes_eq}
use Rattle.std.proofs.lemmas.Cmp.{nat_list_cmp_total, nat_list_eq_equiv}
use Rattle.std.proofs.lemmas.List.Filters.{dedup_is}
use Rattle.std.proofs.lemmas.List.Kept.{IsStrictlySortedBy-dedup, Contains-dedup, Contains-from_dedup}
use Rattle.std.proofs.lemmas.List.Sorted.{Contains-permutation, IsPermutation-sym}
use Rattle.bp_faults.proofs.Lists.{same_bytes}

module _ (xs sorted ys : List (List ℕ)) (kept : IsFiltered (DiffersFromLast bytes_eq) [] sorted ys) where
  is : ys ≡ dedup bytes_eq sorted
  is = dedup_is bytes_eq sorted ys kept

  pub ascends : IsSorted (slice_cmp nat_cmp) sorted → IsStrictlySortedBy (slice_cmp nat_cmp) ys
  ascends up =
      subst (λ zs. IsStrictlySortedBy (slice_cmp nat_cmp) zs) (sym is)
      (IsStrictlySortedBy-dedup nat_list_cmp_total texts_ties sorted up)

  pub same_texts : IsPermutation xs sorted → (text : List ℕ) → Contains ys text ↔ Contains xs text
  same_texts moved text = (
    λ h. Contains-permutation sorted xs text (IsPermutation-sym xs sorted moved)
        (Contains-from_dedup bytes_eq sorted text (subst (λ zs. Contains zs text) is h)),
    λ h. subst (λ zs. Contains zs text) (sym is)
        (Contains-dedup nat_list_eq_equiv same_bytes sorted text (Contains-permutation xs sorted text moved h)),
  )
