-- What a call sees of its input and of its output streams.
use Rattle.std.specs.Prelude.{◌≡◌, ◌⊎◌, ℕ, List, ◌++◌, Option}
use Rattle.bp_ports.specs.declared.sink.Sink.{Ghosts as SinkGhosts}
use Rattle.bp_ports.specs.Causes.{Rose}
use Rattle.bp_ports.specs.Files.{WhereTold, AppendsPart}
use Rattle.graph_picture.specs.declared.input.Input.{Ghosts as InputGhosts}

-- What a call sees of a stream: its bytes, where it tells them, and its count of failures.
pub record Stream : Type 0 where
  pub bytes : Option (List ℕ)
  pub faults : ℕ

-- The stream of an input: the bytes that are left.
abbrev pub input_stream : {I : Type 0} → InputGhosts I → I → Stream
input_stream i input = record { bytes = i.remaining input; faults = i.faults input }

-- The stream of a sink: the bytes so far.
abbrev pub stream : {D : Type 0} → SinkGhosts D → D → Stream
stream d sink = record { bytes = d.bytes sink; faults = d.faults sink }

-- The text was put on the stream.
abbrev pub Gains : List ℕ → Stream → Stream → Type 0
Gains text old new = WhereTold (λ before after. after ≡ before ++ text) old.bytes new.bytes

-- A first part of the text was put on the stream, whose count of failures rose.
abbrev pub GainsPart : List ℕ → Stream → Stream → Type 0
GainsPart text old new = Rose old.faults new.faults × WhereTold (AppendsPart text) old.bytes new.bytes

-- The text was put on the stream, or a first part of it where the stream's count rose.
abbrev pub Says : List ℕ → Stream → Stream → Type 0
Says text old new =
    WhereTold (λ before after. (after ≡ before ++ text) ⊎ (AppendsPart text before after × Rose old.faults new.faults))
    old.bytes new.bytes

-- Nothing was put on the stream.
abbrev pub SaysNothing : Stream → Stream → Type 0
SaysNothing old new = new.bytes ≡ old.bytes
