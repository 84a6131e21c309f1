-- What is known of the names that have a number.
use Rattle.std.proofs.Common.{◌≡◌, ◌∙◌, ℕ, Bool, true, false, cond, List, [], ◌∷◌, refl, ap, sym, Option, Some, None}
use Rattle.std.specs.Prelude.{◌||◌, if◌then◌else◌, is_some}
use Rattle.std.specs.Option.{option_or}
use Rattle.std.specs.Str.{bytes_eq}
use Rattle.bp_names.specs.Meaning.{knows, number_of, LearnsNumber, Learns}
use Rattle.bp_load.specs.Numbered.{numbered_names}

-- a name is among them exactly where it has a number
pub knows_numbered : (pairs : List (List ℕ × ℕ)) (name : List ℕ)
    → knows (numbered_names pairs) name ≡ is_some (number_of pairs name)
knows_numbered [] name = refl
knows_numbered (pair ∷ pairs) name = by (knows_numbered pairs name) (bytes_eq name pair.0)
  where
    by : knows (numbered_names pairs) name ≡ is_some (number_of pairs name) → (same : Bool)
        → (same || knows (numbered_names pairs) name) ≡ is_some (if same then Some pair.1 else number_of pairs name)
    by rest true = refl
    by rest false = rest

given : (had : Option ℕ) (number : ℕ) (same : Bool)
    → is_some (option_or had (if same then Some number else None)) ≡ cond same true (is_some had)
given None number true = refl
given None number false = refl
given (Some n) number true = refl
given (Some n) number false = refl

-- one more name that gets a number is one more of them
pub learns_numbered : (old new : List (List ℕ × ℕ)) (name : List ℕ) (number : ℕ)
    → LearnsNumber old name number new → Learns (numbered_names old) name (numbered_names new)
learns_numbered old new name number learns query =
    knows_numbered new query ∙ ap is_some (learns query)
    ∙ given (number_of old query) number (bytes_eq name query)
    ∙ ap (cond (bytes_eq name query) true) (sym (knows_numbered old query))
