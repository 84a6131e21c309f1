-- Strings: what may stand between the quotes, and what it stands for. 34 is the quote, 92 the backslash.
use Rattle.std.specs.Prelude.{◌≡◌, ℕ, ◌+◌, ◌<◌, Bool, true, false, not, ◌&&◌, ◌==◌, if◌then◌else◌, List, [], ◌∷◌}
use Rattle.std.specs.Prelude.{length, take, slice_index, Option, Some, None, is_some, unwrap_or}
use Rattle.bp_lexer.specs.Classes.{in_line}

-- The nine escapes: what a backslash and this character stand for. They are `\a` `\b` `\f` `\n` `\r` `\t` `\v` `\\` and
-- `\"`.
abbrev pub escape_of : ℕ → Option ℕ
escape_of c =
    if c == 97 then Some 7 else if c == 98 then Some 8 else if c == 102 then Some 12
    else if c == 110 then Some 10 else if c == 114 then Some 13 else if c == 116 then Some 9
    else if c == 118 then Some 11 else if c == 92 then Some 92 else if c == 34 then Some 34 else None

-- What may stand behind a backslash.
abbrev pub is_escape : ℕ → Bool
is_escape c = is_some (escape_of c)

-- What stands for itself: anything but the quote and LF, where it is no backslash.
abbrev pub is_string_byte : ℕ → Bool
is_string_byte b = not (b == 34) && not (b == 10)

-- The body of a string: plain bytes, and pairs of a backslash and a byte that is allowed behind it.
-- `slash`: a backslash stands before.
abbrev pub is_body : (ℕ → Bool) → Bool → List ℕ → Bool
is_body allowed slash [] = not slash
is_body allowed true (b ∷ bs) = allowed b && is_body allowed false bs
is_body allowed false (b ∷ bs) =
    if b == 92 then is_body allowed true bs else (is_string_byte b && is_body allowed false bs)

-- The first n bytes are a body, and a quote closes it.
abbrev pub IsClosedAt : (ℕ → Bool) → List ℕ → ℕ → Type 0
IsClosedAt allowed rest n = (n < length rest) × (is_body allowed false (take n rest) ≡ true) × (slice_index rest n ≡ 34)

-- No quote closes the string on its line, whatever its escapes are.
abbrev pub IsOpen : List ℕ → Type 0
IsOpen rest = (n : ℕ) → IsClosedAt in_line rest n → ⊥

-- The first bad escape is at k.
abbrev pub IsBadEscapeAt : List ℕ → ℕ → Type 0
IsBadEscapeAt rest k = (k + 1 < length rest) × (is_body is_escape false (take k rest) ≡ true)
    × (slice_index rest k ≡ 92) × (is_escape (slice_index rest (k + 1)) ≡ false)

-- The characters that a string stands for, from those between its quotes.
-- `slash`: a backslash stands before.
abbrev pub unescaped_chars : Bool → List ℕ → List ℕ
unescaped_chars slash [] = []
unescaped_chars true (c ∷ cs) = unwrap_or (escape_of c) c ∷ unescaped_chars false cs
unescaped_chars false (c ∷ cs) = if c == 92 then unescaped_chars true cs else c ∷ unescaped_chars false cs
