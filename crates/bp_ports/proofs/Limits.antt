-- What is known of a whole from a first part of it.
use Rattle.std.proofs.Common.{◌≡◌, ℕ, ◌<◌, ◌≤◌, List, [], ◌++◌, length, take, sym, ◌∙◌, ap, arith}
use Rattle.std.specs.Prelude.{Option, Some, None, IfSome}
use Rattle.std.specs.Option.{option_map}
use Rattle.std.proofs.lemmas.List.{length-take, take_all}

-- A first part that is shorter than was asked for is the whole.
whole_of_part : (n : ℕ) (held bytes : List ℕ) → bytes ≡ take n held → length bytes < n → held ≡ bytes
whole_of_part n held bytes part short =
    let few : length held ≤ n = omega (arith, ap length part, length-take n held) in
    sym (part ∙ take_all n held few)

-- The same where the whole may be unknown.
pub all_of_part : (left : Option (List ℕ)) (n : ℕ) (front bytes : List ℕ) → front ≡ []
    → IfSome (option_map (take n) left) (λ part. bytes ≡ front ++ part) → length bytes < n
    → IfSome left (λ held. Some held ≡ Some bytes)
all_of_part None n front bytes none part short = tt
all_of_part (Some held) n front bytes none part short =
    ap Some (whole_of_part n held bytes (part ∙ ap (λ f. f ++ take n held) none) short)
