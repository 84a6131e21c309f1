-- What a list of names knows, and what number a list of names with numbers gives a name.
use Rattle.std.specs.Prelude.{◌≡◌, ℕ, ◌+◌, Bool, true, cond, List, [], ◌∷◌, Option, Some, None, if◌then◌else◌}
use Rattle.std.specs.Option.{option_or}
use Rattle.std.specs.List.{list_any}
use Rattle.std.specs.Str.{bytes_eq}

-- A list knows its names.
abbrev pub knows : List (List ℕ) → List ℕ → Bool
knows names name = list_any (bytes_eq name) names

-- The new list knows one more name than the old.
abbrev pub Learns : List (List ℕ) → List ℕ → List (List ℕ) → Type 0
Learns old name new = (query : List ℕ) → knows new query ≡ cond (bytes_eq name query) true (knows old query)

-- A set has the names of a list, and no others.
abbrev pub IsSetOf : List (List ℕ) → List (List ℕ) → Type 0
IsSetOf names set = (query : List ℕ) → knows set query ≡ knows names query

-- A name's number is that of the first pair with the name.
abbrev pub number_of : List (List ℕ × ℕ) → List ℕ → Option ℕ
number_of [] name = None
number_of (pair ∷ pairs) name = if bytes_eq name pair.0 then Some pair.1 else number_of pairs name

-- A number is given to one name alone.
abbrev pub number_for : List ℕ → ℕ → List ℕ → Option ℕ
number_for name number query = if bytes_eq name query then Some number else None

-- In the new list a name has its number of the old, if it had one, and else the number that is given to it.
abbrev pub LearnsNumber : List (List ℕ × ℕ) → List ℕ → ℕ → List (List ℕ × ℕ) → Type 0
LearnsNumber old name number new =
    (query : List ℕ) → number_of new query ≡ option_or (number_of old query) (number_for name number query)

-- The first of some names that is this one has this number, where they are numbered from n on.
abbrev pub first_number_from : ℕ → List (List ℕ) → List ℕ → Option ℕ
first_number_from n [] name = None
first_number_from n (first ∷ names) name = if bytes_eq name first then Some n else first_number_from (n + 1) names name

-- The first of some names that is this one has this number, from 0.
abbrev pub first_number : List (List ℕ) → List ℕ → Option ℕ
first_number names name = first_number_from 0 names name

-- The pairs give each name the number of the first of some names that is it.
abbrev pub NumbersFirst : List (List ℕ) → List (List ℕ × ℕ) → Type 0
NumbersFirst names pairs = (query : List ℕ) → number_of pairs query ≡ first_number names query
