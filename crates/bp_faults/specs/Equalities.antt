-- That comparisons are equalities: of lists, options and pairs, and of what is made of parts. By these the instances of
-- `Same` show what they tell.
use Rattle.std.specs.Prelude.{◌≡◌, Bool, true, Option, Some, None}
use Rattle.std.specs.Option.{option_eq}
use Rattle.std.specs.Cmp.Lexicographic.{pointwise, pointwise_decides}
use Rattle.std.proofs.Common.{refl, sym, ap, subst, ◌∙◌}
use Rattle.std.proofs.Math.Bool.{true≢false}
use Rattle.std.proofs.lemmas.Bool.Decides.{Decides-and}
use Rattle.bp_faults.specs.Same.{IsEquality, same_pairs}

-- Lists are equal where their items are, one by one.
pub lists_tell : {X : Type 0} {same : X → X → Bool} → IsEquality same → IsEquality (pointwise same)
lists_tell = pointwise_decides

-- Pairs are equal where both parts are.
pub pairs_tell : {X Y : Type 0} {first : X → X → Bool} {second : Y → Y → Bool}
    → IsEquality first → IsEquality second → IsEquality (same_pairs first second)
pairs_tell one other a b =
    let both = Decides-and _ _ (one a.0 b.0) (other a.1 b.1) in
    (λ e. let parts = both.0 e in λ i. (parts.0 i, parts.1 i), λ e. both.1 (ap (λ p. p.0) e, ap (λ p. p.1) e))

-- What has parts, of which it can be made again, is equal where these are.
pub parts_tell : {X P : Type 0} {same : P → P → Bool} (parts : X → P) (made : P → X) → ((x : X) → made (parts x) ≡ x)
    → IsEquality same → IsEquality (λ x y. same (parts x) (parts y))
parts_tell parts made again tell x y = (
  λ e. sym (again x) ∙ (ap made ((tell (parts x) (parts y)).0 e) ∙ again y),
  λ e. (tell (parts x) (parts y)).1 (ap parts e),
)

-- An option is equal to itself.
own_option : {X : Type 0} {same : X → X → Bool} → IsEquality same → (a : Option X) → option_eq same a a ≡ true
own_option tell None = refl
own_option tell (Some x) = (tell x x).1 refl

-- Options that are compared as equal are.
told_option : {X : Type 0} {same : X → X → Bool} → IsEquality same
    → (a b : Option X) → option_eq same a b ≡ true → a ≡ b
told_option tell None None e = refl
told_option tell None (Some y) e = absurd (true≢false (sym e))
told_option tell (Some x) None e = absurd (true≢false (sym e))
told_option tell (Some x) (Some y) e = ap Some ((tell x y).0 e)

-- Options are equal where neither has a value, or both have equal ones.
pub options_tell : {X : Type 0} {same : X → X → Bool} → IsEquality same → IsEquality (option_eq same)
options_tell {same = same} tell a b =
    (told_option tell a b, λ e. subst (λ o. option_eq same a o ≡ true) e (own_option tell a))
