-- A sink in memory: its bytes, its room, its puts, and how many of them failed.
use Rattle.std.specs.Prelude.{◌≡◌, ℕ, ◌/◌, min, List, [], length, take, Vec}
use Rattle.std.specs.declared.alloc.Global.{Global}
use Rattle.bp_ports.specs.Calls.{none_yet}
use Rattle.bp_ports.specs.declared.calls.Calls.{Calls}
use Rattle.bp_ports.specs.declared.mem_sink.MemSink.{MemSink}

-- The bytes so far.
abbrev pub bytes_so_far : MemSink → List ℕ
bytes_so_far s = s.bytes.items

-- The room that is left for bytes.
abbrev pub room_left : MemSink → ℕ
room_left s = s.room

-- Its puts.
abbrev pub puts_of : MemSink → Calls
puts_of s = s.puts

-- How many puts failed.
abbrev pub failed_puts : MemSink → ℕ
failed_puts s = s.faults

-- What a put that fails appends: the first half of its bytes, rounded down, or as many of these as fit.
abbrev pub fitting_half : ℕ → List ℕ → List ℕ
fitting_half room bytes = take (min room (length bytes / 2)) bytes

-- A new sink has the room and the failing puts that it was given, no bytes, and nothing was counted.
pub record BeginsWith (room : ℕ) (failing : Vec ℕ Global) (s : MemSink) : Type 0 where
  pub bytes : bytes_so_far s ≡ []
  pub space : room_left s ≡ room
  pub puts : puts_of s ≡ none_yet failing
  pub faults : failed_puts s ≡ 0
