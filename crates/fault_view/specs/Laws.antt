-- What bp_faults prints is read back.
use Rattle.std.specs.Prelude.{◌≢◌, ◌<◌, ◌^◌, ℕ, List, ◌++◌, EachIndex, slice_index, IsUtf8}
use Rattle.bp_faults.specs.declared.fault.Fault.{Fault}
use Rattle.bp_faults.specs.Kinds.{fault_number, fault_text}
use Rattle.bp_faults.specs.Line.{line_of, path_at, subject_tail, what_of}
use Rattle.fault_view.specs.declared.fault_line.FaultLine.{FaultLine}
use Rattle.fault_view.specs.Lines.{IsLineOf}

-- What the line of a fault says: its path, its place, its number, and its text with the subject.
abbrev pub said_of : Fault → List (List ℕ) → FaultLine
said_of fault files = record {
  path = path_at files fault.at.file;
  line = fault.at.line;
  col = fault.at.col;
  number = fault_number fault.kind;
  what = fault_text fault.kind ++ subject_tail (what_of fault.kind fault.subject fault.chain);
}

-- The line of a fault says so, where it is UTF-8, its path has no colon, and its place has numbers of 32 bits.
abbrev pub FaultLinesSayFaults : Type 0
FaultLinesSayFaults =
    (fault : Fault) (files : List (List ℕ)) → IsUtf8 (line_of fault files)
    → EachIndex (path_at files fault.at.file) (λ k. slice_index (path_at files fault.at.file) k ≢ 58)
    → fault.at.line < 2 ^ 32 → fault.at.col < 2 ^ 32 → IsLineOf (line_of fault files) (said_of fault files)
