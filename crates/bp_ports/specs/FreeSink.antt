-- A sink in memory that never fails: the bytes that it tells, and its room.
use Rattle.std.specs.Prelude.{◌≡◌, ℕ, List, [], Option, Some, None, if◌then◌else◌}
use Rattle.bp_ports.specs.MemSink.{bytes_so_far, room_left}
use Rattle.bp_ports.specs.declared.free_sink.FreeSink.{FreeSink}

-- The bytes, as long as they are told.
abbrev pub told_bytes : FreeSink → Option (List ℕ)
told_bytes s = if s.told then Some (bytes_so_far s.sink) else None

-- The room that is left for bytes.
abbrev pub room_for_bytes : FreeSink → ℕ
room_for_bytes s = room_left s.sink

-- A new sink tells that it has no bytes, and has the room.
pub record BeginsWith (room : ℕ) (s : FreeSink) : Type 0 where
  pub bytes : told_bytes s ≡ Some []
  pub space : room_for_bytes s ≡ room
