-- The text that is printed: all lines that come in, and a note behind each fault line.
use Rattle.std.specs.Prelude.{◌≡◌, ◌⊎◌, ℕ, List, [], ◌∷◌, ◌++◌, length, take, nat_le, ◌==◌, if◌then◌else◌, codes, ⊤}
use Rattle.std.specs.Prelude.{Option, Some, None, IfSome}
use Rattle.std.specs.FinMap.{get}
use Rattle.std.specs.Option.{option_and_then}
use Rattle.std.specs.Str.Lines.{lines}
use Rattle.bp_faults.specs.declared.limits.TheConstants.{LARGEST_FILE, LARGEST_LIST_FILE, LARGEST_ORDER_FILE}
use Rattle.bp_ports.specs.Causes.{Rose}
use Rattle.bp_ports.specs.Files.{Files}
use Rattle.near_names.specs.Joined.{comma_list}
use Rattle.near_names.specs.Nearest.{nearest_names}
use Rattle.fault_view.specs.declared.fault_line.FaultLine.{FaultLine}
use Rattle.fault_view.specs.declared.unknown.Unknown.{Unknown}
use Rattle.fault_view.specs.declared.unknown.Unknown.TheVariants.{ModuleType, Property, Module}
use Rattle.fault_view.specs.Lines.{IsLineOf, IsNoFaultLine}
use Rattle.fault_view.specs.Excerpts.{as_text, excerpt_of}
use Rattle.fault_view.specs.Known.{type_names, table_names}
use Rattle.fault_view.specs.Unknown.{unknown_of, last_parts}
use Rattle.fault_view.specs.ModuleNames.{AreNames}

-- What a file holds, where it is no larger than the limit.
abbrev pub bytes_within : ℕ → Option (List ℕ) → Option (List ℕ)
bytes_within limit None = None
bytes_within limit (Some bytes) = if nat_le (length bytes) limit then Some bytes else None

-- The text that a file holds, where it is UTF-8 and no larger than the limit.
abbrev pub text_within : ℕ → Option (List ℕ) → Option (List ℕ)
text_within limit held = option_and_then as_text (bytes_within limit held)

-- The names of the modules of a file, which has none where it is no text.
abbrev pub AreTextNames : Option (List ℕ) → List (List ℕ) → Type 0
AreTextNames None names = names ≡ []
AreTextNames (Some text) names = AreNames text names

-- The names of the modules of the file at a path.
abbrev pub AreFileNames : Files → List ℕ → List (List ℕ) → Type 0
AreFileNames files path names = AreTextNames (text_within LARGEST_FILE (get files path)) names

-- The names of the modules of the files at some paths, one file after another.
abbrev pub AreAllNames : Files → List (List ℕ) → List (List ℕ) → Type 0
AreAllNames files [] names = names ≡ []
AreAllNames files (path ∷ paths) names =
    (first : List (List ℕ)) × (rest : List (List ℕ)) × (names ≡ first ++ rest) × AreFileNames files path first
    × AreAllNames files paths rest

-- The names of the modules of the files that a list names, a line a file.
abbrev pub AreListedNames : Files → Option (List ℕ) → List (List ℕ) → Type 0
AreListedNames files None names = names ≡ []
AreListedNames files (Some list) names = AreAllNames files (lines list) names

-- The names of modules that are known: those of the listed files, and without a list those of the fault's own file.
abbrev pub AreModules : Option (List ℕ) → Files → List ℕ → List (List ℕ) → Type 0
AreModules None files path names = AreFileNames files path names
AreModules (Some list) files path names = AreListedNames files (text_within LARGEST_LIST_FILE (get files list)) names

-- The known names that are nearest to what is unknown.
abbrev pub AreNearest : Option (List ℕ) → Files → List ℕ → Option (Unknown × List ℕ) → List (List ℕ) → Type 0
AreNearest list files path None names = names ≡ []
AreNearest list files path (Some (ModuleType, word)) names = names ≡ nearest_names type_names word
AreNearest list files path (Some (Property, property)) names =
    names ≡ nearest_names (table_names (last_parts property).0) (last_parts property).1
AreNearest list files path (Some (Module, word)) names =
    (known : List (List ℕ)) × AreModules list files path known × (names ≡ nearest_names known word)

-- The line of some names. No names are no line.
abbrev pub names_line : List (List ℕ) → List ℕ
names_line [] = []
names_line (name ∷ names) = codes "nearest: " ++ (comma_list (name ∷ names) ++ codes "\n")

-- What is shown of the file that a line names.
abbrev pub shown_of : Option (List ℕ) → FaultLine → Option (List ℕ)
shown_of None f = None
shown_of (Some bytes) f = excerpt_of bytes f.line f.col

-- Behind an excerpt stand the nearest names, and without one stands nothing.
abbrev pub IsNoteWith : Option (List ℕ) → Files → FaultLine → Option (List ℕ) → List ℕ → Type 0
IsNoteWith list files f None note = note ≡ []
IsNoteWith list files f (Some shown) note =
    (names : List (List ℕ)) × AreNearest list files f.path (unknown_of f) names × (note ≡ shown ++ names_line names)

-- The note of a fault: an excerpt of its file, where that has the place, and the nearest names.
abbrev pub IsNote : Option (List ℕ) → Files → FaultLine → List ℕ → Type 0
IsNote list files f note =
    IsNoteWith list files f (shown_of (bytes_within LARGEST_ORDER_FILE (get files f.path)) f) note

-- What stands behind a line: behind a fault line its note, and behind another line nothing.
pub record IsBehind (list : Option (List ℕ)) (files : Files) (line note : List ℕ) : Type 0 where
  pub fault : (f : FaultLine) → IsLineOf line f → IsNote list files f note
  pub other : IsNoFaultLine line → note ≡ []

-- A byte before the first of some lines.
abbrev pub with_first_byte : ℕ → List (List ℕ) → List (List ℕ)
with_first_byte b [] = (b ∷ []) ∷ []
with_first_byte b (line ∷ lines) = (b ∷ line) ∷ lines

-- The lines of some bytes, each with its LF, which the last may lack.
abbrev pub ended_lines : List ℕ → List (List ℕ)
ended_lines [] = []
ended_lines (b ∷ bs) = if b == 10 then (10 ∷ []) ∷ ended_lines bs else with_first_byte b (ended_lines bs)

-- What is printed: each line, and behind it what may stand there.
abbrev pub IsPrintedView : (List ℕ → List ℕ → Type 0) → List (List ℕ) → List ℕ → Type 0
IsPrintedView Behind [] out = out ≡ []
IsPrintedView Behind (line ∷ lines) out =
    (note : List ℕ) × (rest : List ℕ) × (out ≡ line ++ (note ++ rest)) × Behind line note
    × IsPrintedView Behind lines rest

-- The output gained such a view of the input.
abbrev pub Shows : (List ℕ → List ℕ → Type 0) → List ℕ → List ℕ → List ℕ → Type 0
Shows Behind input before after =
    (seen : List ℕ) × (after ≡ before ++ seen) × IsPrintedView Behind (ended_lines input) seen

-- A first part of a line and of what stands behind it.
abbrev pub IsLinePart : (List ℕ → List ℕ → Type 0) → List ℕ → List ℕ → Type 0
IsLinePart Behind line out = (note : List ℕ) × Behind line note × ((k : ℕ) × (out ≡ take k (line ++ note)))

-- A first part of what is printed: nothing, a part of the first line, or that line and a first part of the others.
abbrev pub IsViewPart : (List ℕ → List ℕ → Type 0) → List (List ℕ) → List ℕ → Type 0
IsViewPart Behind [] out = out ≡ []
IsViewPart Behind (line ∷ lines) out =
    (out ≡ []) ⊎ (IsLinePart Behind line out
    ⊎ ((note : List ℕ) × (rest : List ℕ) × (out ≡ line ++ (note ++ rest)) × Behind line note
    × IsViewPart Behind lines rest))

-- The output gained a first part of a view of the input.
abbrev pub ShowsPart : (List ℕ → List ℕ → Type 0) → List ℕ → List ℕ → List ℕ → Type 0
ShowsPart Behind input before after =
    (seen : List ℕ) × (after ≡ before ++ seen) × IsViewPart Behind (ended_lines input) seen

-- Anything may stand behind a line.
abbrev pub Anything : List ℕ → List ℕ → Type 0
Anything line note = ⊤

-- Where the files are told and no read failed, this holds of them.
abbrev pub Softly : Option Files → ℕ → ℕ → (Files → Type 0) → Type 0
Softly told before now Holds = IfSome told (λ files. ¬ Rose before now → Holds files)
