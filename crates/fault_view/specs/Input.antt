-- A reader of lines, and where they can't be read.
use Rattle.std.specs.Prelude.{◌≤◌, ◌⊎◌, ◌^◌, ◌-◌, ℕ, List, length, Option, IfSome}
use Rattle.bp_ports.specs.Causes.{Rose}
use Rattle.fault_view.specs.declared.input.Counted.{Counted}
use Rattle.fault_view.specs.View.{ended_lines}

-- The reader that gives the lines.
abbrev pub reader_of : {B : Type 0} → Counted B → B
reader_of s = s.reader

-- How many reads failed.
abbrev pub failed_reads : {B : Type 0} → Counted B → ℕ
failed_reads s = s.faults

-- The input can't be read where a read failed, or where it has more lines than a `u64` counts.
abbrev pub IsUnread : Option (List ℕ) → ℕ → ℕ → Type 0
IsUnread told before now = Rose before now ⊎ IfSome told (λ text. 2 ^ 64 - 1 ≤ length (ended_lines text))
