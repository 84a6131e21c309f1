-- A line of a file as it is shown, with a caret under a column.
use Rattle.std.specs.Prelude.{ℕ, ◌-◌, false, Bool, ◌&&◌, ◌==◌, nat_lt, nat_le, List, ◌++◌, length, map}
use Rattle.std.specs.Prelude.{take, replicate}
use Rattle.std.specs.Prelude.{codes, encode_utf8_all, if◌then◌else◌, Option, Some, None, slice_get}
use Rattle.std.specs.List.{flat_map, slice_split}
use Rattle.std.specs.Option.{unwrap_or, option_and_then}
use Rattle.std.specs.Str.{chars, is_utf8}
use Rattle.std.specs.Fmt.{decimal}
use Rattle.unicode_width.specs.Width.{char_width}
use Rattle.bp_faults.specs.Line.{shown_char}

-- A tab is kept, and another control character is shown as a question mark.
abbrev pub shown_here : ℕ → ℕ
shown_here c = if c == 9 then 9 else shown_char c

-- A line as it is shown.
abbrev pub printed_line : List ℕ → List ℕ
printed_line line = encode_utf8_all (map shown_here (chars line))

-- The columns that a character takes in a terminal, by the tables of `unicode_width`: a wide one takes two.
abbrev pub width : ℕ → ℕ
width c = unwrap_or (char_width false (shown_here c)) 0

-- What stands under a character: a tab under a tab, and under every other one as many spaces as it is wide.
abbrev pub under : ℕ → List ℕ
under c = if c == 9 then codes "\t" else replicate (width c) 32

-- The caret stands behind what is under the characters before the column, which counts from 1.
abbrev pub caret_line : List ℕ → ℕ → List ℕ
caret_line line col = flat_map under (take (col - 1) (chars line)) ++ codes "^"

-- A line with its number, and a caret under a column.
abbrev pub quoted_line : List ℕ → ℕ → ℕ → List ℕ
quoted_line line number col =
    decimal number ++ (codes " | " ++ (printed_line line ++ (codes "\n"
    ++ (replicate (length (decimal number)) 32 ++ (codes " | " ++ (caret_line line col ++ codes "\n"))))))

-- The text, where it is UTF-8.
abbrev pub as_text : List ℕ → Option (List ℕ)
as_text bytes = if is_utf8 bytes then Some bytes else None

-- The line of a file by its number, which counts from 1, where the file has it and it is UTF-8.
abbrev pub line_at : List ℕ → ℕ → Option (List ℕ)
line_at bytes number =
    if number == 0 then None else option_and_then as_text (slice_get (slice_split (λ b. b == 10) bytes) (number - 1))

-- A line has a column for each character, and one behind them.
abbrev pub has_column : List ℕ → ℕ → Bool
has_column line col = nat_lt 0 col && nat_le (col - 1) (length (chars line))

-- What is shown of a line, where it is there and has the column.
abbrev pub shown_at : Option (List ℕ) → ℕ → ℕ → Option (List ℕ)
shown_at None number col = None
shown_at (Some line) number col = if has_column line col then Some (quoted_line line number col) else None

-- What is shown of a file, where it has that place.
abbrev pub excerpt_of : List ℕ → ℕ → ℕ → Option (List ℕ)
excerpt_of bytes number col = shown_at (line_at bytes number) number col
