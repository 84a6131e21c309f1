-- A store in memory: its files, its room, its calls, and how many of them failed.
use Rattle.std.specs.Prelude.{◌≡◌, ℕ, List, map, Vec}
use Rattle.std.specs.FinMap.{from_entries}
use Rattle.std.specs.declared.alloc.Global.{Global}
use Rattle.bp_ports.specs.Calls.{none_yet}
use Rattle.bp_ports.specs.Files.{Files}
use Rattle.bp_ports.specs.Written.{files_after}
use Rattle.bp_ports.specs.declared.calls.Calls.{Calls}
use Rattle.bp_ports.specs.declared.mem_store.MemStore.{MemStore}

-- Files as pairs of a path and its bytes.
abbrev pub entries_of : List (List ℕ × Vec ℕ Global) → List (List ℕ × List ℕ)
entries_of files = map (λ e. (e.0, e.1.items)) files

-- The files that are given, of two with one path the first.
abbrev pub given_files : List (List ℕ × Vec ℕ Global) → Files
given_files files = from_entries (entries_of files)

-- The files that the store holds.
abbrev pub held_files : MemStore → Files
held_files s = files_after s.writes.spans.items s.writes.run.items (given_files s.files.items)

-- The room that is left for writes.
abbrev pub room_left : MemStore → ℕ
room_left s = s.writes.room

-- Its calls, reads and writes together.
abbrev pub calls_of : MemStore → Calls
calls_of s = s.calls

-- How many calls there were, up to the last value of 32 bits.
abbrev pub calls_so_far : MemStore → ℕ
calls_so_far s = (calls_of s).count

-- How many reads failed.
abbrev pub failed_reads : MemStore → ℕ
failed_reads s = s.read_faults

-- How many writes failed.
abbrev pub failed_writes : MemStore → ℕ
failed_writes s = s.write_faults

-- A new store has the files, the room and the failing calls that it was given, and nothing was counted.
pub record BeginsWith (given : Files) (room : ℕ) (failing : Vec ℕ Global) (s : MemStore) : Type 0 where
  pub files : held_files s ≡ given
  pub space : room_left s ≡ room
  pub calls : calls_of s ≡ none_yet failing
  pub reads : failed_reads s ≡ 0
  pub writes : failed_writes s ≡ 0
