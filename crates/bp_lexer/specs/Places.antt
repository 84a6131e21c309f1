-- Lines and columns.
use Rattle.std.specs.Prelude.{◌≡◌, ◌⊎◌, ◌<◌, ℕ, ◌+◌, Bool, not, ◌||◌, nat_lt, nat_le, ◌==◌, List, take, reverse}
use Rattle.std.specs.List.{count_by, take_while}
use Rattle.bp_faults.specs.declared.place.Place.{Place}

-- The byte begins a character, in UTF-8.
abbrev pub begins_char : ℕ → Bool
begins_char b = nat_lt b 128 || nat_le 192 b

-- What stands after the last end of a line.
abbrev pub last_line : List ℕ → List ℕ
last_line bytes = reverse (take_while (λ b. not (b == 10)) (reverse bytes))

-- Lines and columns count from 1. A line ends after LF, and a column counts characters.
unfoldable pub place_at : ℕ → List ℕ → ℕ → Place
place_at file text i = record {
  file = file;
  line = 1 + count_by (λ b. b == 10) (take i text);
  col = 1 + count_by begins_char (last_line (take i text));
}

-- One place is before another: on an earlier line, or on the same line in an earlier column.
abbrev pub IsPlaceBefore : Place → Place → Type 0
IsPlaceBefore p q = (p.line < q.line) ⊎ ((p.line ≡ q.line) × (p.col < q.col))
