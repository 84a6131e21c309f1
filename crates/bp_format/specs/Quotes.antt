-- How texts are written as strings, and a list of them.
use Rattle.std.specs.Prelude.{ℕ, if◌then◌else◌, ◌==◌, List, [], ◌∷◌, ◌++◌, codes, chars, encode_utf8_all, Option, Some}
use Rattle.std.specs.Prelude.{None}

-- The letter that stands for a character behind a backslash, where it has an escape.
abbrev pub escape_letter : ℕ → Option ℕ
escape_letter c =
    if c == 7 then Some 97 else if c == 8 then Some 98 else if c == 12 then Some 102
    else if c == 10 then Some 110 else if c == 13 then Some 114 else if c == 9 then Some 116
    else if c == 11 then Some 118 else if c == 92 then Some 92 else if c == 34 then Some 34 else None

-- A character, or its escape.
abbrev pub escape_by : ℕ → Option ℕ → List ℕ
escape_by c None = c ∷ []
escape_by c (Some letter) = 92 ∷ letter ∷ []

-- A character between quotes.
abbrev pub character_in_quotes : ℕ → List ℕ
character_in_quotes c = escape_by c (escape_letter c)

-- The characters of a text between quotes.
abbrev pub characters_in_quotes : List ℕ → List ℕ
characters_in_quotes [] = []
characters_in_quotes (c ∷ cs) = character_in_quotes c ++ characters_in_quotes cs

-- A text as a string, in its quotes.
abbrev pub quotation : List ℕ → List ℕ
quotation text = 34 ∷ (encode_utf8_all (characters_in_quotes (chars text)) ++ 34 ∷ [])

-- What stands behind the first item of a list.
abbrev pub more_items_text : List (List ℕ) → List ℕ
more_items_text [] = []
more_items_text (x ∷ xs) = codes ", " ++ (quotation x ++ more_items_text xs)

-- The items of a list.
abbrev pub items_text : List (List ℕ) → List ℕ
items_text [] = []
items_text (x ∷ xs) = quotation x ++ more_items_text xs

-- A list of strings.
abbrev pub list_text : List (List ℕ) → List ℕ
list_text items = codes "[" ++ (items_text items ++ codes "]")
