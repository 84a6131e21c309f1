-- The nearest names of what a line says is unknown, and the note that they end.
use Rattle.std.proofs.Common.{◌≡◌, ◌≤◌, ℕ, List, ◌++◌, Option, Some, None, sym, subst}
use Rattle.std.specs.Prelude.{MatchOption}
use Rattle.std.specs.FinMap.{get}
use Rattle.bp_faults.specs.declared.limits.TheConstants.{LARGEST_ORDER_FILE}
use Rattle.bp_ports.specs.Files.{Files}
use Rattle.fault_view.specs.declared.fault_line.FaultLine.{FaultLine}
use Rattle.fault_view.specs.Lines.{IsReadAs, IsNoFaultLine}
use Rattle.fault_view.specs.Unknown.{unknown_of}
use Rattle.fault_view.specs.View.{Softly, AreNearest, IsNoteWith, IsNote, IsBehind, shown_of, bytes_within, names_line}
use Rattle.fault_view.specs.Inside.{IsReadNote}
use Rattle.fault_view.proofs.Soft.{softly_both, softly_map}

module _ (told : Option Files) (list : Option (List ℕ)) (f : FaultLine) where
  -- an excerpt and the nearest names are the note
  pub note_is : (a b c : ℕ) (text note : List ℕ) (names : List (List ℕ)) → a ≤ b → b ≤ c
      → note ≡ text ++ names_line names
      → Softly told a b (λ files. Some text ≡ shown_of (bytes_within LARGEST_ORDER_FILE (get files f.path)) f)
      → Softly told b c (λ files. AreNearest list files f.path (unknown_of f) names)
      → Softly told a c (λ files. IsNote list files f note)
  note_is a b c text note names ab bc is shown near =
      softly_both told a b c _ _ _ ab bc
      (λ files here there. subst (λ o. IsNoteWith list files f o note) here (names, there, is)) shown near

-- what was read of a line tells what stands behind it
read_behind : (list : Option (List ℕ)) (files : Files) (line note : List ℕ) (read : Option FaultLine)
    → MatchOption read (IsNoFaultLine line) (IsReadAs line) → IsReadNote list files read note
    → IsBehind list files line note
read_behind list files line note None nothing is = record {
  fault = λ f says. absurd (nothing f says);
  other = λ it. is;
}
read_behind list files line note (Some f) says is = record {
  fault = λ g there. subst (λ k. IsNote list files k note) (sym (says.only g there)) is;
  other = λ nothing. absurd (nothing f says.here);
}

pub read_all_behind : (told : Option Files) (list : Option (List ℕ)) (a b : ℕ) (line note : List ℕ)
    (read : Option FaultLine) → MatchOption read (IsNoFaultLine line) (IsReadAs line)
    → Softly told a b (λ files. IsReadNote list files read note)
    → Softly told a b (λ files. IsBehind list files line note)
read_all_behind told list a b line note read says here =
    softly_map told a b _ _ (λ files is. read_behind list files line note read says is) here
