-- The classes of bytes that tokens are made of.
use Rattle.std.specs.Prelude.{ℕ, Bool, not, ◌||◌, ◌==◌}
use Rattle.std.specs.Char.{is_ascii_alphabetic, is_ascii_alphanumeric, is_ascii_digit}
use Rattle.bp_lexer.specs.declared.class.Class.{Class}
use Rattle.bp_lexer.specs.declared.class.Class.TheVariants.{White, Space, Letter, Word, Digit, Line, Raw}

-- White space: space, tab, CR and LF.
abbrev pub is_white : ℕ → Bool
is_white b = (b == 32) || (b == 9) || (b == 13) || (b == 10)

-- What begins an identifier: a letter of ASCII or `_`.
abbrev pub is_letter : ℕ → Bool
is_letter b = is_ascii_alphabetic b || (b == 95)

-- What goes on an identifier: a letter, a digit or `_`.
abbrev pub is_word : ℕ → Bool
is_word b = is_ascii_alphanumeric b || (b == 95)

-- A decimal digit.
abbrev pub is_digit : ℕ → Bool
is_digit b = is_ascii_digit b

-- What stands on a line: anything but LF.
abbrev pub in_line : ℕ → Bool
in_line b = not (b == 10)

-- What stands in a raw string: anything but a backquote.
abbrev pub in_raw : ℕ → Bool
in_raw b = not (b == 96)

-- The classes by their names.
abbrev pub in_class : Class → ℕ → Bool
in_class White b = is_white b
in_class Space b = b == 32
in_class Letter b = is_letter b
in_class Word b = is_word b
in_class Digit b = is_digit b
in_class Line b = in_line b
in_class Raw b = in_raw b
