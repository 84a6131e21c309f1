-- What the steps come to of reading a line and of printing.
use Rattle.std.specs.Prelude.{◌≡◌, ◌<◌, ◌^◌, ◌⊎◌, ℕ, List, [], ◌∷◌, ◌++◌, Option, Some, None}
use Rattle.std.specs.Fmt.{decimal}
use Rattle.bp_ports.specs.Files.{Files, WhereTold, AppendsPart}
use Rattle.fault_view.specs.declared.cut.Parts.{Parts}
use Rattle.fault_view.specs.declared.fault_line.FaultLine.{FaultLine}
use Rattle.fault_view.specs.Lines.{IsReadAs}
use Rattle.fault_view.specs.View.{Softly, IsBehind, IsNote}

-- The number below 2^32 of which a text is the decimal, or none.
abbrev pub IsNumber : List ℕ → Option ℕ → Type 0
IsNumber text (Some n) = (n < 2 ^ 32) × (text ≡ decimal n)
IsNumber text None = (n : ℕ) → n < 2 ^ 32 → text ≡ decimal n → ⊥

-- The text is a number, a colon and the rest.
abbrev pub BeginsWithNumber : List ℕ → ℕ → List ℕ → Type 0
BeginsWithNumber text n rest = (n < 2 ^ 32) × (text ≡ decimal n ++ (58 ∷ rest))

-- The text is that number, a colon and that rest, and no other number, colon and rest.
pub record IsFirstNumber (text : List ℕ) (n : ℕ) (rest : List ℕ) : Type 0 where
  pub here : BeginsWithNumber text n rest
  pub only : (m : ℕ) (more : List ℕ) → BeginsWithNumber text m more → (m ≡ n) × (more ≡ rest)

-- The text begins with no number and a colon.
abbrev pub HasNoNumber : List ℕ → Type 0
HasNoNumber text = (n : ℕ) (rest : List ℕ) → BeginsWithNumber text n rest → ⊥

-- The parts as what a line says.
abbrev pub line_of_parts : Parts → FaultLine
line_of_parts p = record {
  path = p.path.now;
  line = p.line;
  col = p.col;
  number = p.number;
  what = p.what.now;
}

-- The text is the line of these parts.
abbrev pub CutsLine : List ℕ → Parts → Type 0
CutsLine text p = IsReadAs text (line_of_parts p)

-- The note of what was read: that of a fault, and nothing where no fault was read.
abbrev pub IsReadNote : Option (List ℕ) → Files → Option FaultLine → List ℕ → Type 0
IsReadNote list files None note = note ≡ []
IsReadNote list files (Some f) note = IsNote list files f note

-- A line was put, and behind it a note, which is what stands there where no read failed.
pub record PutsLine (list : Option (List ℕ)) (told : Option Files) (before now : ℕ) (line : List ℕ)
    (old new : Option (List ℕ)) : Type 0 where
  pub note : List ℕ
  pub put : WhereTold (λ before after. after ≡ before ++ (line ++ note)) old new
  pub exact : Softly told before now (λ files. IsBehind list files line note)

-- A first part of a line was put, and of the note behind it, which is what stands there where no read failed.
pub record PutsPart (list : Option (List ℕ)) (told : Option Files) (before now : ℕ) (line : List ℕ)
    (old new : Option (List ℕ)) : Type 0 where
  pub note : List ℕ
  pub put : WhereTold (AppendsPart (line ++ note)) old new
  pub exact : Softly told before now (λ files. IsBehind list files line note)

-- Nothing was put, or such a part.
abbrev pub PutsAtMost : Option (List ℕ) → Option Files → ℕ → ℕ → List ℕ → Option (List ℕ) → Option (List ℕ) → Type 0
PutsAtMost list told before now line old new = (new ≡ old) ⊎ PutsPart list told before now line old new
