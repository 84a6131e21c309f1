-- Visits and journals as texts.
use Rattle.std.specs.Prelude.{ℕ, List, ◌++◌, ◌∷◌}
use Rattle.std.specs.Fmt.{decimal}
use Rattle.std.specs.List.{flat_map}
use Rattle.bp_faults.specs.declared.ids.NodeId.{NodeId}
use Rattle.bp_faults.specs.Characters.{ended_line}

-- The text of a visit: the numbers of its pass and its node in decimal without leading zeros, and one space between.
abbrev pub visit_text : ℕ × NodeId → List ℕ
visit_text v = decimal v.0 ++ (32 ∷ decimal v.1.0)

-- The text of a journal: for each visit a line with its text.
abbrev pub journal_text : List (ℕ × NodeId) → List ℕ
journal_text journal = flat_map (λ v. ended_line (visit_text v)) journal
