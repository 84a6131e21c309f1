-- A store in memory that never fails: the files that it tells, its room and its calls.
use Rattle.std.specs.Prelude.{◌≡◌, ℕ, Option, Some, None, if◌then◌else◌}
use Rattle.bp_ports.specs.Files.{Files}
use Rattle.bp_ports.specs.MemStore.{held_files, room_left, calls_of}
use Rattle.bp_ports.specs.declared.free_store.FreeStore.{FreeStore}

-- The files, as long as they are told.
abbrev pub told_files : FreeStore → Option Files
told_files s = if s.told then Some (held_files s.store) else None

-- The room that is left for writes.
abbrev pub room_for_writes : FreeStore → ℕ
room_for_writes s = room_left s.store

-- How many calls there were, reads and writes together, up to the last value of 32 bits.
abbrev pub calls_so_far : FreeStore → ℕ
calls_so_far s = (calls_of s.store).count

-- A new store tells the files that it was given, has the room, and no call was counted.
pub record BeginsWith (given : Files) (room : ℕ) (s : FreeStore) : Type 0 where
  pub files : told_files s ≡ Some given
  pub space : room_for_writes s ≡ room
  pub calls : calls_so_far s ≡ 0
