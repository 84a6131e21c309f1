-- How a call ended, before and after it is said. Only the contracts of steps speak of it.
use Rattle.std.specs.Prelude.{ℕ, List, [], ◌∷◌, Option, Some, None, IsNone, IsSomeAnd, Result, Ok, Err, ⊤}
use Rattle.command_words.specs.Options.{usage_line}
use Rattle.bp_run.specs.declared.end.End.{End}
use Rattle.bp_run.specs.declared.put.Put.{Put}
use Rattle.bp_run.specs.declared.put.Put.TheVariants.{Write, Print}
use Rattle.bp_run.specs.Description.{Description}
use Rattle.bp_run.specs.Lines.{memory_line, output_line, write_line}
use Rattle.bp_run.specs.Puts.{IsPut, ArePut, IsUnput, AreUnput}
use Rattle.bp_run.specs.Run.{DoneBy, FaultBy, ReadBy, WriteBy}
use Rattle.bp_run.specs.World.{World, Stream, Says, SaysNothing, Untouched, Unchanged}

-- The exit status of an end.
abbrev pub status_of : End → ℕ
status_of End.Done = 0
status_of (End.Fault line) = 1
status_of End.Usage = 2
status_of (End.Read line) = 3
status_of (End.Write line) = 4
status_of End.OutOfMemory = 5

-- The line that an end puts on the stream for messages.
abbrev pub report_of : End → Option (List ℕ)
report_of End.Done = None
report_of (End.Fault line) = Some line
report_of End.Usage = Some usage_line
report_of (End.Read line) = Some line
report_of (End.Write line) = Some line
report_of End.OutOfMemory = Some memory_line

-- The line was put on the stream, where there is one.
abbrev pub IsLineReported : Option (List ℕ) → Stream → Stream → Type 0
IsLineReported None before after = SaysNothing before after
IsLineReported (Some line) before after = Says before after line

-- What a call has done before it reports its end.
abbrev pub Ended : {C : Type 0} → (C → Description) → Option C → World → World → End → Type 0
Ended described conf old new End.Done = IsSomeAnd conf (λ c. DoneBy old new (described c))
Ended described conf old new (End.Fault line) = IsSomeAnd conf (λ c. FaultBy old new line (described c))
Ended described conf old new End.Usage = IsNone conf × Untouched old new
Ended described conf old new (End.Read line) = IsSomeAnd conf (λ c. ReadBy old new line (described c))
Ended described conf old new (End.Write line) = IsSomeAnd conf (λ c. WriteBy old new line (described c))
Ended described conf old new End.OutOfMemory = Unchanged old new

-- The line for a text that couldn't be put where it goes.
abbrev pub failure_line : Put → List ℕ
failure_line (Write path text) = write_line path
failure_line (Print text) = output_line

-- What trying to put a text where it goes comes to.
abbrev pub TryMeans : {E : Type 0} → Put → World → World → Result Unit E → Type 0
TryMeans put old new (Ok done) = IsPut put old new
TryMeans put old new (Err failed) = IsUnput put old new (failure_line put)

-- What putting texts where they go comes to: all are there, or one couldn't be put, or memory runs out before.
abbrev pub EndsPutting : List Put → World → World → End → Type 0
EndsPutting puts old new End.Done = ArePut puts old new
EndsPutting puts old new (End.Write line) = AreUnput puts old new line
EndsPutting puts old new End.OutOfMemory = Unchanged old new
EndsPutting puts old new end = ⊥

-- All go to the output.
abbrev pub ArePrints : List Put → Type 0
ArePrints [] = ⊤
ArePrints (Write path text ∷ puts) = ⊥
ArePrints (Print text ∷ puts) = ArePrints puts
