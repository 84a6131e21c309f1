-- What holds of the first elements of a list.
use Rattle.std.proofs.Common.{◌≡◌, ℕ, ◌+◌, ◌<◌, List, length, get_or, arith, ap, subst, sym, ◌∙◌, ⊎_elim}
use Rattle.std.proofs.lemmas.Bool.{cases_lt}
use Rattle.std.proofs.lemmas.List.{get_or_default}

-- one more element
pub one_more : {X : Type 0} (P : X → Type 0) (xs : List X) (i : ℕ) (x : X) → i < length xs → x ≡ get_or xs i x → P x
    → ((k : ℕ) (d : X) → k < i → P (get_or xs k d)) → (k : ℕ) (d : X) → k < i + 1 → P (get_or xs k d)
one_more P xs i x h is here before k d below =
    ⊎_elim (λ less. before k d less) (λ more.
    let e : k ≡ i = omega arith in
    subst P (is ∙ get_or_default xs i x d h ∙ ap (λ j. get_or xs j d) (sym e)) here) (cases_lt k i)
