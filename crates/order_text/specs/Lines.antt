-- The bytes of an order file as lines, and what each line is.
use Rattle.std.specs.Prelude.{◌≡◌, ◌≢◌, ◌<◌, ◌^◌, ◌⊎◌, ℕ, List, [], ◌∷◌, ◌++◌, length, Option, Some, None, All, IsUtf8}
use Rattle.std.specs.List.{AllZip, flat_map}
use Rattle.bp_faults.specs.declared.ids.NodeId.{NodeId}
use Rattle.pass_ways.specs.declared.way.OrderLine.{OrderLine}
use Rattle.order_text.specs.Texts.{visit_text}
use Rattle.bp_faults.specs.Characters.{ended_line}

-- None of the bytes is LF.
abbrev pub HasNoLineEnd : List ℕ → Type 0
HasNoLineEnd line = All (λ b. b ≢ 10) line

-- The bytes are lines with LF behind each but the last, which lacks it and isn't empty.
pub record LacksLastEnd (bytes : List ℕ) (lines : List (List ℕ)) : Type 0 where
  pub before : List (List ℕ)
  pub last : List ℕ
  pub some : 0 < length last
  pub lines_are : lines ≡ before ++ last ∷ []
  pub whole : bytes ≡ flat_map ended_line before ++ last

-- The bytes are these lines: LF is behind each of them and nowhere in them, but the last may lack it.
pub record AreCut (bytes : List ℕ) (lines : List (List ℕ)) : Type 0 where
  pub apart : All HasNoLineEnd lines
  pub whole : (bytes ≡ flat_map ended_line lines) ⊎ LacksLastEnd bytes lines

-- The numbers of a visit are below 2^32.
abbrev pub IsVisit : ℕ × NodeId → Type 0
IsVisit v = (v.0 < 2 ^ 32) × (v.1.0 < 2 ^ 32)

-- A line's entry is the visit of which the line is the text, or none where it is the text of no visit.
abbrev pub IsEntry : List ℕ → Option (ℕ × NodeId) → Type 0
IsEntry line (Some v) = IsVisit v × (line ≡ visit_text v)
IsEntry line None = (v : ℕ × NodeId) → IsVisit v → line ≡ visit_text v → ⊥

-- A line in UTF-8 is its text with its entry. One that isn't has an empty text and no entry.
abbrev pub IsLine : List ℕ → OrderLine → Type 0
IsLine line l =
    (IsUtf8 line × (l.text ≡ line) × IsEntry line l.entry) ⊎ ((IsUtf8 line → ⊥) × (l.text ≡ []) × (l.entry ≡ None))

-- The lines of an order file.
pub record AreLines (bytes : List ℕ) (lines : List OrderLine) : Type 0 where
  pub cut : List (List ℕ)
  pub cut_is : AreCut bytes cut
  pub each : AllZip IsLine cut lines
