-- A standard stream: it tells nothing but how often a put failed.
use Rattle.std.specs.Prelude.{ℕ}
use Rattle.bp_ports.specs.declared.std_sink.StdSink.{StdSink}

-- The writer that takes the bytes.
abbrev pub stream_of : {W : Type 0} → StdSink W → W
stream_of s = s.stream

-- How many puts failed.
abbrev pub failed_puts : {W : Type 0} → StdSink W → ℕ
failed_puts s = s.faults
