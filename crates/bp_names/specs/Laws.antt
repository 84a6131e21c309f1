-- What holds of names and numbers.
use Rattle.std.specs.Prelude.{◌≡◌, ◌↔◌, ℕ, List, [], ◌∷◌, ◌++◌, length, IsTrue}
use Rattle.std.specs.Option.{option_or}
use Rattle.std.specs.List.{Contains}
use Rattle.bp_names.specs.Meaning.{knows, Learns, IsSetOf, number_for, first_number, LearnsNumber, NumbersFirst}

-- A list knows a name exactly where the name is one of its elements.
abbrev pub KnowsWhatItContains : Type 0
KnowsWhatItContains = (names : List (List ℕ)) (name : List ℕ) → IsTrue (knows names name) ↔ Contains names name

-- A set of the names of a list, which learns one name more, is the set of the longer list.
abbrev pub SetsGrowWithLists : Type 0
SetsGrowWithLists = (names set new : List (List ℕ)) (name : List ℕ)
    → IsSetOf names set → Learns set name new → IsSetOf (names ++ name ∷ []) new

-- One more name gets the number behind all others, unless it is among them.
abbrev pub FirstNumbersStay : Type 0
FirstNumbersStay = (names : List (List ℕ)) (name query : List ℕ)
    → first_number (names ++ name ∷ []) query
    ≡ option_or (first_number names query) (number_for name (length names) query)

-- A table of the first numbers of a list, which learns one name more with the next number, is that of the longer list.
abbrev pub TablesGrowWithLists : Type 0
TablesGrowWithLists = (names : List (List ℕ)) (table new : List (List ℕ × ℕ)) (name : List ℕ)
    → NumbersFirst names table → LearnsNumber table name (length names) new → NumbersFirst (names ++ name ∷ []) new
