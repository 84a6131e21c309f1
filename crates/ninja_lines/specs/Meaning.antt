-- The measure of this crate: the joined lines of a text for Ninja. Ninja manual, "Ninja file reference", "Lexical
-- syntax": a `$` before a line feed is a line continuation, and the spaces that begin the next line are dropped.
use Rattle.std.specs.Prelude.{ℕ, ◌+◌, Bool, false, List, [], ◌∷◌, ◌++◌, ◌&&◌, ◌==◌, not, length, take, ◌-◌}
use Rattle.std.specs.Prelude.{Option, Some, None, if◌then◌else◌}
use Rattle.std.specs.List.{onto_first}
use Rattle.std.specs.Str.{is_utf8}
use Rattle.bp_faults.specs.Characters.{dollar, space}

-- The byte LF.
abbrev pub line_feed : ℕ
line_feed = 10

-- The lines of a text. Each ends with LF; the last may lack it.
abbrev pub lines : List ℕ → List (List ℕ)
lines [] = []
lines (b ∷ bytes) = if b == line_feed then [] ∷ lines bytes else onto_first b (lines bytes)

-- Whether a dollar at the end has nothing behind it. A dollar takes the byte behind it, so `$$` is a pair. The flag
-- says that a dollar stands before.
abbrev pub dangles : Bool → List ℕ → Bool
dangles behind [] = behind
dangles behind (b ∷ bytes) = dangles (not behind && b == dollar) bytes

-- A text without the spaces that it begins with.
abbrev pub drop_spaces : List ℕ → List ℕ
drop_spaces [] = []
drop_spaces (b ∷ bytes) = if b == space then drop_spaces bytes else b ∷ bytes

-- A text without its last byte.
abbrev pub without_last : List ℕ → List ℕ
without_last line = take (length line - 1) line

-- A line with those that it joins, by the number of the first. Where a line isn't UTF-8 there is no text, and the
-- number is that line's.
pub record JoinedLine : Type 0 where
  pub number : ℕ
  pub text : Option (List ℕ)

-- The front of a line, and the joined line behind it.
abbrev pub glue_text : ℕ → List ℕ → ℕ → Option (List ℕ) → JoinedLine
glue_text number front next None = record { number = next; text = None }
glue_text number front next (Some rest) = record { number = number; text = Some (front ++ drop_spaces rest) }

-- The front of a line before joined lines. At the end of the text its dollar joins nothing, and stays.
abbrev pub glue : ℕ → List ℕ → List JoinedLine → List JoinedLine
glue number front [] = record { number = number; text = Some (front ++ dollar ∷ []) } ∷ []
glue number front (next ∷ more) = glue_text number front next.number next.text ∷ more

-- A line that is UTF-8, before joined lines: it joins the next where it ends with a dollar that takes nothing.
abbrev pub text_line : ℕ → List ℕ → List JoinedLine → List JoinedLine
text_line number line rest =
    if dangles false line then glue number (without_last line) rest
    else (record { number = number; text = Some line } ∷ rest)

-- A line before joined lines. One that isn't UTF-8 joins nothing.
abbrev pub joined_line : ℕ → List ℕ → List JoinedLine → List JoinedLine
joined_line number line rest =
    if is_utf8 line then text_line number line rest else (record { number = number; text = None } ∷ rest)

-- The joined lines of some lines, which are counted from a number.
abbrev pub joined_from : ℕ → List (List ℕ) → List JoinedLine
joined_from number [] = []
joined_from number (line ∷ more) = joined_line number line (joined_from (number + 1) more)

-- The joined lines of a text, which are counted from 1.
abbrev pub joined_lines : List ℕ → List JoinedLine
joined_lines text = joined_from 1 (lines text)
