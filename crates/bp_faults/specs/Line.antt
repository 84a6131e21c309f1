-- The line that a fault is printed as: `path:line:col: error N: text: subject`, and LF.
use Rattle.std.specs.Prelude.{ℕ, List, [], ◌∷◌, ◌++◌, if◌then◌else◌, map, take, codes, encode_utf8_all, slice_index_or}
use Rattle.std.specs.Str.{chars}
use Rattle.std.specs.Fmt.{decimal}
use Rattle.bp_faults.specs.declared.fault.Fault.{Fault}
use Rattle.bp_faults.specs.declared.place.Place.{Place}
use Rattle.bp_faults.specs.declared.kind.FaultKind.{FaultKind}
use Rattle.bp_faults.specs.declared.kind.FaultKind.TheVariants.{Cycle}
use Rattle.bp_faults.specs.Kinds.{fault_number, fault_text}
use Rattle.bp_faults.specs.Characters.{is_control}

-- A control character is printed as a question mark.
abbrev pub shown_char : ℕ → ℕ
shown_char c = if is_control c then 63 else c

-- What is shown of a text is its first 80 characters.
abbrev pub shown_text : List ℕ → List ℕ
shown_text bytes = encode_utf8_all (map shown_char (take 80 (chars bytes)))

-- Each name follows an arrow.
abbrev pub after_arrows : List (List ℕ) → List ℕ
after_arrows [] = []
after_arrows (name ∷ names) = codes " -> " ++ (name ++ after_arrows names)

-- A chain is its names, joined by arrows.
abbrev pub chain_of : List (List ℕ) → List ℕ
chain_of [] = []
chain_of (name ∷ names) = name ++ after_arrows names

-- The line ends with the chain of a cycle, and with the subject of every other fault.
abbrev pub what_of : FaultKind → List ℕ → List (List ℕ) → List ℕ
what_of Cycle subject chain = chain_of chain
what_of kind subject chain = shown_text subject

-- An empty subject is left out, and its colon too.
abbrev pub subject_tail : List ℕ → List ℕ
subject_tail [] = []
subject_tail (c ∷ what) = codes ": " ++ c ∷ what

-- The path of a file by its number; it is empty past the last.
abbrev pub path_at : List (List ℕ) → ℕ → List ℕ
path_at files n = slice_index_or files n []

-- The line begins with the fault's place, its number and its text.
abbrev pub head_of : List ℕ → Place → FaultKind → List ℕ
head_of path at kind =
    path ++ (codes ":" ++ (decimal at.line ++ (codes ":" ++ (decimal at.col ++ (codes ": error "
    ++ (decimal (fault_number kind) ++ (codes ": " ++ fault_text kind)))))))

-- The whole line is the head, the tail and LF.
abbrev pub line_of : Fault → List (List ℕ) → List ℕ
line_of f files =
    head_of (path_at files f.at.file) f.at f.kind ++ (subject_tail (what_of f.kind f.subject f.chain) ++ codes "\n")
