-- Directories above others: how that goes with file order.
use Rattle.std.proofs.Common.{◌≡◌, ◌⊎◌, inl, inr, ℕ, ◌≤◌, true, List, [], ◌∷◌, length, refl, ap, sym, ◌∙◌, arith}
use Rattle.std.specs.Str.{bytes_eq}
use Rattle.std.specs.declared.cmp.Ordering.{Ordering}
use Rattle.std.specs.declared.cmp.Ordering.TheVariants.{Less, Equal, Greater}
use Rattle.std.specs.Ordering.{nat_cmp, ordering_then, ordering_reverse}
use Rattle.std.specs.Cmp.Lexicographic.{slice_cmp}
use Rattle.std.proofs.lemmas.Bool.{and_parts, and_from}
use Rattle.std.proofs.lemmas.Cmp.{nat_list_cmp_total, nat_list_eq_equiv, tied_itself}
use Rattle.std.proofs.lemmas.Map.Lookups.{exact_bytes}
use Rattle.bp_faults.proofs.Lists.{same_bytes}
use Rattle.bp_load.specs.Directories.{is_above, directory_cmp}
use Rattle.bp_load.specs.Laws.{AncestorsStandFirst}

itself : (a : List ℕ) → bytes_eq a a ≡ true
itself a = nat_list_eq_equiv.refl a

pub above_itself : (d : List (List ℕ)) → is_above d d ≡ true
above_itself [] = refl
above_itself (c ∷ d) = and_from (bytes_eq c c) (is_above d d) (itself c) (above_itself d)

pub above_trans : (a b d : List (List ℕ)) → is_above a b ≡ true → is_above b d ≡ true → is_above a d ≡ true
above_trans [] b d first second = refl
above_trans (x ∷ a) [] d first second = cc
above_trans (x ∷ a) (y ∷ b) [] first second = cc
above_trans (x ∷ a) (y ∷ b) (z ∷ d) first second =
    let one = and_parts (bytes_eq x y) (is_above a b) first in
    let two = and_parts (bytes_eq y z) (is_above b d) second in
    and_from (bytes_eq x z) (is_above a d) (ap (λ t. bytes_eq t z) (same_bytes x y one.0) ∙ two.0)
    (above_trans a b d one.1 two.1)

-- what stands between a directory and one below it is below it, too
pub above_between : (a b d : List (List ℕ)) → directory_cmp a b ≡ Less → directory_cmp b d ≡ Less → is_above a d ≡ true
    → is_above a b ≡ true
above_between [] b d first second above = refl
above_between (x ∷ a) [] d first second above = cc
above_between (x ∷ a) (y ∷ b) [] first second above = cc
above_between (x ∷ a) (y ∷ b) (z ∷ d) first second above =
    let both = and_parts (bytes_eq x z) (is_above a d) above in
    by (slice_cmp nat_cmp x y) refl first (ap (λ t. ordering_then (slice_cmp nat_cmp y t) (directory_cmp b d))
    (same_bytes x z both.0) ∙ second) (λ one two. above_between a b d one two both.1)
  where
    tied : x ≡ y → slice_cmp nat_cmp y x ≡ Equal
    tied same = ap (slice_cmp nat_cmp y) same ∙ tied_itself nat_list_cmp_total y

    by : (o : Ordering) → slice_cmp nat_cmp x y ≡ o → ordering_then o (directory_cmp a b) ≡ Less
        → ordering_then (slice_cmp nat_cmp y x) (directory_cmp b d) ≡ Less
        → (directory_cmp a b ≡ Less → directory_cmp b d ≡ Less → is_above a b ≡ true) → is_above (x ∷ a) (y ∷ b) ≡ true
    by Less is one two more =
        let back : slice_cmp nat_cmp y x ≡ Greater = nat_list_cmp_total.antisymm y x ∙ ap ordering_reverse is in
        absurd (let e : Greater ≡ Less = sym (ap (λ o. ordering_then o (directory_cmp b d)) back) ∙ two in cc)
    by Equal is one two more =
        let same : x ≡ y = exact_bytes x y is in
        and_from (bytes_eq x y) (is_above a b) (ap (λ t. bytes_eq t y) same ∙ itself y)
        (more one (sym (ap (λ o. ordering_then o (directory_cmp b d)) (tied same)) ∙ two))
    by Greater is one two more = cc

-- of two directories above a third, the earlier has no more components
pub above_shorter : (a b d : List (List ℕ)) → directory_cmp a b ≡ Less → is_above a d ≡ true → is_above b d ≡ true
    → length a ≤ length b
above_shorter [] b d before first second = omega arith
above_shorter (x ∷ a) [] d before first second = absurd (cc)
above_shorter (x ∷ a) (y ∷ b) [] before first second = absurd (cc)
above_shorter (x ∷ a) (y ∷ b) (z ∷ d) before first second =
    let one = and_parts (bytes_eq x z) (is_above a d) first in
    let two = and_parts (bytes_eq y z) (is_above b d) second in
    let tied : slice_cmp nat_cmp x y ≡ Equal =
    ap (slice_cmp nat_cmp x) (same_bytes y z two.0 ∙ sym (same_bytes x z one.0)) ∙ tied_itself nat_list_cmp_total x in
    let more = above_shorter a b d (sym (ap (λ o. ordering_then o (directory_cmp a b)) tied) ∙ before) one.1 two.1 in
    omega arith

-- a directory above another is the same, or stands before it
pub ancestors_first : AncestorsStandFirst
ancestors_first [] [] above = inl refl
ancestors_first [] (y ∷ b) above = inr refl
ancestors_first (x ∷ a) [] above = absurd (cc)
ancestors_first (x ∷ a) (y ∷ b) above = by (ancestors_first a b both.1)
  where
    both : (bytes_eq x y ≡ true) × (is_above a b ≡ true)
    both = and_parts (bytes_eq x y) (is_above a b) above

    same : x ≡ y
    same = same_bytes x y both.0

    tied : slice_cmp nat_cmp x y ≡ Equal
    tied = ap (slice_cmp nat_cmp x) (sym same) ∙ tied_itself nat_list_cmp_total x

    by : (a ≡ b) ⊎ (directory_cmp a b ≡ Less) → ((x ∷ a) ≡ (y ∷ b)) ⊎ (directory_cmp (x ∷ a) (y ∷ b) ≡ Less)
    by (inl rest) = inl (let head : x ≡ y = same in cc)
    by (inr before) = inr (ap (λ o. ordering_then o (directory_cmp a b)) tied ∙ before)
