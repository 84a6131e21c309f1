-- What holds of order files and journals.
use Rattle.std.specs.Prelude.{◌≡◌, ℕ, List, length, All}
use Rattle.bp_faults.specs.declared.ids.NodeId.{NodeId}
use Rattle.pass_ways.specs.declared.way.OrderLine.{OrderLine}
use Rattle.pass_ways.specs.OrderFiles.{Say}
use Rattle.order_text.specs.Lines.{AreLines, IsVisit}
use Rattle.order_text.specs.Texts.{journal_text}

-- All bytes are some lines.
abbrev pub SomeLines : Type 0
SomeLines = (bytes : List ℕ) → (lines : List OrderLine) × AreLines bytes lines

-- Bytes are one list of lines alone.
abbrev pub OneLines : Type 0
OneLines = (bytes : List ℕ) (lines other : List OrderLine) → AreLines bytes lines → AreLines bytes other → lines ≡ other

-- The lines of a journal's text say its visits and nothing else.
abbrev pub JournalsAreReadBack : Type 0
JournalsAreReadBack =
    (journal : List (ℕ × NodeId)) (lines : List OrderLine) → All IsVisit journal → AreLines (journal_text journal) lines
    → Say lines journal × (length lines ≡ length journal)
