-- Two scalars are compared by their values and places, and two lists by their items and places.
use Rattle.std.specs.Prelude.{Bool, ◌&&◌}
use Rattle.std.specs.Cmp.Lexicographic.{pointwise}
use Rattle.std.specs.Option.{option_eq}
use Rattle.std.proofs.Common.{refl}
use Rattle.bp_faults.specs.Equalities.{lists_tell, options_tell, pairs_tell, parts_tell}
use Rattle.bp_faults.specs.Same.{IsEquality}
use Rattle.bp_faults.specs.contracts.same.PlaceSame.TheImpl as place
use Rattle.bp_faults.specs.contracts.same.PlaceSame.TheImpl.Laws.{tells-law as place_tells}
use Rattle.bp_props.specs.declared.given.Given.{Given}
use Rattle.bp_props.specs.declared.listed.Listed.{Listed}

-- Two scalars are the same where both parts are.
abbrev pub same_given : {A : Type 0} → (A → A → Bool) → Given A → Given A → Bool
same_given same a b = same a.value b.value && (place.ghosts).same_as a.at b.at

-- So this tells them apart where the values' does.
pub given_tells : {A : Type 0} {same : A → A → Bool} → IsEquality same → IsEquality (same_given same)
given_tells tell =
    parts_tell (λ g. (g.value, g.at)) (λ p. record { value = p.0; at = p.1 }) (λ g. refl) (pairs_tell tell place_tells)

-- Two lists are the same where both have the same items and the same place.
abbrev pub same_listed : {A : Type 0} → (A → A → Bool) → Listed A → Listed A → Bool
same_listed same a b = pointwise same a.items b.items && option_eq (place.ghosts).same_as a.at b.at

-- So this tells them apart where the items' does.
pub listed_tells : {A : Type 0} {same : A → A → Bool} → IsEquality same → IsEquality (same_listed same)
listed_tells tell = parts_tell (λ l. (l.items, l.at)) (λ p. record { items = p.0; at = p.1 }) (λ l. refl)
    (pairs_tell (lists_tell tell) (options_tell place_tells))
