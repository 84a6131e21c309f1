-- The calls of an object in memory: how many there were, and which of them fail.
use Rattle.std.specs.Prelude.{ℕ, ◌+◌, ◌-◌, ◌^◌, min, Vec, Contains}
use Rattle.std.specs.declared.alloc.Global.{Global}
use Rattle.bp_ports.specs.declared.calls.Calls.{Calls}

-- No call yet.
abbrev pub none_yet : Vec ℕ Global → Calls
none_yet failing = record { failing = failing; count = 0 }

-- The number of the call after so many, up to the last value of 32 bits.
abbrev pub next_number : ℕ → ℕ
next_number count = min (count + 1) (2 ^ 32 - 1)

-- The next call is one of those that fail.
abbrev pub FailsNext : Calls → Type 0
FailsNext c = Contains c.failing.items (next_number c.count)

-- One call later: it is counted, and which calls fail stays as it was.
abbrev pub one_later : Calls → Calls
one_later c = record { failing = c.failing; count = next_number c.count }
