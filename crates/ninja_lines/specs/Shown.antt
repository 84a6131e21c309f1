-- A joined line of the code as data.
use Rattle.std.specs.Prelude.{ℕ, List, Option, Some, None, map}
use Rattle.std.specs.Borrow.{Bor}
use Rattle.ninja_lines.specs.Meaning.{JoinedLine}
use Rattle.ninja_lines.specs.declared.line.Line.{Line}
use Rattle.ninja_lines.specs.declared.line.LineText.{LineText}
use Rattle.ninja_lines.specs.declared.line.LineText.TheVariants.{NotText, Whole, Joined}

-- The text of a joined line, where it is one.
abbrev pub text_in : LineText → Option (List ℕ)
text_in NotText = None
text_in (Whole text) = Some text.now
text_in (Joined text) = Some text

-- A joined line by its number and its text.
abbrev pub shown_line : Line → JoinedLine
shown_line line = record { number = line.number; text = text_in line.content }

-- Borrowed texts by their bytes.
abbrev pub texts : List (Bor (List ℕ)) → List (List ℕ)
texts lines = map (λ line. line.now) lines
