-- Writes to files, one after another in one run of bytes, and what the files are after them.
use Rattle.std.specs.Prelude.{ℕ, ◌+◌, List, [], ◌∷◌, length, take, drop, Option, Some, Bool, true, ◌&&◌}
use Rattle.std.specs.Prelude.{if◌then◌else◌}
use Rattle.std.specs.Ordering.{nat_cmp, is_eq}
use Rattle.std.specs.Cmp.Lexicographic.{slice_cmp}
use Rattle.std.specs.FinMap.{insert}
use Rattle.std.specs.Str.{is_utf8}
use Rattle.bp_ports.specs.Files.{Files}
use Rattle.bp_ports.specs.declared.writes.Span.{Span}

-- The room that a write uses up.
abbrev pub need_of : List ℕ → List ℕ → ℕ
need_of path bytes = 16 + length path + length bytes

-- How many bytes the writes have.
abbrev pub total : List Span → ℕ
total [] = 0
total (s ∷ spans) = s.path + s.bytes + total spans

-- The path of the write that stands first in the run.
abbrev pub first_path : Span → List ℕ → List ℕ
first_path s run = take s.path run

-- The bytes of the write that stands first in the run.
abbrev pub first_bytes : Span → List ℕ → List ℕ
first_bytes s run = take s.bytes (drop s.path run)

-- The run behind its first write.
abbrev pub run_behind : Span → List ℕ → List ℕ
run_behind s run = drop s.bytes (drop s.path run)

-- The files after these writes, the oldest of them first.
abbrev pub files_after : List Span → List ℕ → Files → Files
files_after [] run files = files
files_after (s ∷ spans) run files =
    files_after spans (run_behind s run) (insert files (first_path s run) (first_bytes s run))

-- What a path holds after these writes, if it held this before.
abbrev pub held_after : List Span → List ℕ → List ℕ → Option (List ℕ) → Option (List ℕ)
held_after [] run path held = held
held_after (s ∷ spans) run path held =
    let now = if is_eq (slice_cmp nat_cmp path (first_path s run)) then Some (first_bytes s run) else held in
    held_after spans (run_behind s run) path now

-- The paths of these writes.
abbrev pub written_paths : List Span → List ℕ → List (List ℕ)
written_paths [] run = []
written_paths (s ∷ spans) run = first_path s run ∷ written_paths spans (run_behind s run)

-- The paths of these writes are texts.
abbrev pub has_texts : List Span → List ℕ → Bool
has_texts [] run = true
has_texts (s ∷ spans) run = is_utf8 (first_path s run) && has_texts spans (run_behind s run)
