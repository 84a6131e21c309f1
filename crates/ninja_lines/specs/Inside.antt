-- No public contract speaks of it: how far a line and a part go, and one step of joining.
use Rattle.std.specs.Prelude.{◌≡◌, ℕ, suc, ◌+◌, ◌<◌, ◌≤◌, Bool, true, false, List, [], ◌∷◌, ◌==◌, length}
use Rattle.std.specs.Prelude.{drop, if◌then◌else◌}
use Rattle.std.specs.Borrow.{Bor}
use Rattle.ninja_lines.specs.Meaning.{line_feed, joined_from}
use Rattle.ninja_lines.specs.Shown.{shown_line, texts}
use Rattle.ninja_lines.specs.declared.line.Line.{Line}
use Rattle.bp_faults.specs.Characters.{dollar}

-- How far the first line goes.
abbrev pub line_length : List ℕ → ℕ
line_length [] = 0
line_length (b ∷ bytes) = if b == line_feed then 0 else suc (line_length bytes)

-- How far the first part goes.
abbrev pub reach : ℕ → Bool → List ℕ → ℕ
reach at behind [] = 0
reach at true (b ∷ bytes) = suc (reach at false bytes)
reach at false (b ∷ bytes) =
    if b == dollar then suc (reach at true bytes) else (if b == at then 0 else suc (reach at false bytes))

-- The joined line that begins at a line, and the line behind it.
pub record IsNextLine (lines : List (Bor (List ℕ))) (at : ℕ) (line : Line) (next : ℕ) : Type 0 where
  pub more : at < next
  pub within : next ≤ length lines
  pub same :
      joined_from (at + 1) (drop at (texts lines)) ≡ shown_line line ∷ joined_from (next + 1) (drop next (texts lines))
