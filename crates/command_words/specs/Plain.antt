-- The plain form of the words: an option and its value are two words.
use Rattle.std.specs.Prelude.{ℕ, List, [], ◌∷◌, ◌++◌, Bool, ◌==◌, nat_lt, length, if◌then◌else◌}
use Rattle.std.specs.List.{position_or_len, before_first, after_first}

-- The byte is `=`.
abbrev pub is_equals : ℕ → Bool
is_equals byte = byte == 61

-- `--option=value` is two words, split at the first `=`.
abbrev pub long_parts : List ℕ → List (List ℕ)
long_parts word =
    if nat_lt (position_or_len is_equals word) (length word)
    then before_first is_equals word ∷ after_first is_equals word ∷ []
    else word ∷ []

-- `-oVALUE` is two words, split after the second character, which is given apart from those behind it. No option has a
-- second character beyond ASCII, and such a word stays whole.
abbrev pub short_parts : ℕ → List ℕ → List (List ℕ)
short_parts second [] = (45 ∷ second ∷ []) ∷ []
short_parts second (b ∷ bs) =
    if nat_lt second 128 then (45 ∷ second ∷ []) ∷ (b ∷ bs) ∷ [] else (45 ∷ second ∷ b ∷ bs) ∷ []

-- The words that a word which begins with `-` stands for, by what is behind that.
abbrev pub dashed_parts : List ℕ → List (List ℕ)
dashed_parts [] = (45 ∷ []) ∷ []
dashed_parts (second ∷ rest) =
    if second == 45 then long_parts (45 ∷ second ∷ rest) else short_parts second rest

-- The words that a word stands for.
abbrev pub parts_of_word : List ℕ → List (List ℕ)
parts_of_word [] = [] ∷ []
parts_of_word (first ∷ rest) = if first == 45 then dashed_parts rest else (first ∷ rest) ∷ []

-- The words that all words stand for, in their order.
abbrev pub plain_words : List (List ℕ) → List (List ℕ)
plain_words [] = []
plain_words (word ∷ words) = parts_of_word word ++ plain_words words
