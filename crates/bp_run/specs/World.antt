-- What a call of the program sees of its store and of its streams, and what it may do to them.
use Rattle.std.specs.Prelude.{◌≡◌, ◌≤◌, ◌⊎◌, ℕ, List, ◌++◌, Option}
use Rattle.bp_ports.specs.declared.store.Store.{Ghosts as StoreGhosts}
use Rattle.bp_ports.specs.declared.sink.Sink.{Ghosts as SinkGhosts}
use Rattle.bp_ports.specs.Causes.{Rose}
use Rattle.bp_ports.specs.Files.{Files, WhereTold, AppendsPart}

-- What a call sees of its store and of its output: what they hold, where they tell it, and their counts of failures.
pub record World : Type 0 where
  pub files : Option Files
  pub reads : ℕ
  pub writes : ℕ
  pub out : Option (List ℕ)
  pub puts : ℕ

-- The world of a store and of an output.
abbrev pub world : {S O : Type 0} → StoreGhosts S → SinkGhosts O → S → O → World
world s o store out = record {
  files = s.files store;
  reads = s.read_faults store;
  writes = s.write_faults store;
  out = o.bytes out;
  puts = o.faults out;
}

-- What a call sees of a stream: its bytes, where it tells them, and its count of failures.
pub record Stream : Type 0 where
  pub bytes : Option (List ℕ)
  pub faults : ℕ

-- The stream of a sink.
abbrev pub stream : {D : Type 0} → SinkGhosts D → D → Stream
stream d sink = record { bytes = d.bytes sink; faults = d.faults sink }

-- The text was put on the stream, or a first part of it where the stream's count rose.
abbrev pub Says : Stream → Stream → List ℕ → Type 0
Says old new text =
    WhereTold (λ before after. (after ≡ before ++ text) ⊎ (AppendsPart text before after × Rose old.faults new.faults))
    old.bytes new.bytes

-- Nothing was put on the stream.
abbrev pub SaysNothing : Stream → Stream → Type 0
SaysNothing old new = new.bytes ≡ old.bytes

-- Files and output are as they were.
pub record Unchanged (old new : World) : Type 0 where
  pub files : new.files ≡ old.files
  pub out : new.out ≡ old.out

-- The counts of failures that putting texts may raise haven't fallen.
pub record HaveCounted (old new : World) : Type 0 where
  pub writes : old.writes ≤ new.writes
  pub puts : old.puts ≤ new.puts

-- Nothing was read or written.
pub record IsSpared (old new : World) : Type 0 where
  pub files : new.files ≡ old.files
  pub reads : new.reads ≡ old.reads
  pub writes : new.writes ≡ old.writes

-- Nothing was read or written, and nothing changed.
pub record Untouched (old new : World) : Type 0 where
  pub store : IsSpared old new
  pub out : new.out ≡ old.out

-- No count of the store or of the output rose.
pub record Quiet (old new : World) : Type 0 where
  pub reads : ¬ Rose old.reads new.reads
  pub writes : ¬ Rose old.writes new.writes
  pub puts : ¬ Rose old.puts new.puts
