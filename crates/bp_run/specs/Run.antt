-- What each exit status of a call says, whatever its commands are.
use Rattle.std.specs.Prelude.{◌≡◌, ◌≤◌, ◌⊎◌, ℕ, List, []}
use Rattle.std.specs.Prelude.{Option, Some, Result, Ok, Err, IfSome, IsNone, IsSomeAnd}
use Rattle.bp_faults.specs.declared.fault.Fault.{Fault}
use Rattle.bp_faults.specs.Line.{line_of}
use Rattle.bp_ports.specs.Causes.{Rose}
use Rattle.command_words.specs.Options.{usage_line}
use Rattle.bp_run.specs.declared.put.Put.{Put}
use Rattle.bp_run.specs.Description.{Description, seen_files}
use Rattle.bp_run.specs.Lines.{read_line, memory_line}
use Rattle.bp_run.specs.Puts.{ArePut, AreUnput}
use Rattle.bp_run.specs.World.{World, Stream, Says, SaysNothing, Unchanged, Untouched, IsSpared, Quiet}

-- Where the store tells its files, this is what the command comes to.
abbrev pub Gives : Description → World → Result (List ℕ) Fault → Type 0
Gives d old outcome = IfSome (seen_files d old) (λ files. d.gives files outcome)

-- The store tells its files, where the command reads any, and this is what it comes to.
abbrev pub ToldGives : Description → World → Result (List ℕ) Fault → Type 0
ToldGives d old outcome = IsSomeAnd (seen_files d old) (λ files. d.gives files outcome)

-- The command comes to a text, and these are all texts with their places.
abbrev pub HasPuts : Description → World → List Put → Type 0
HasPuts d old puts = (text : List ℕ) × Gives d old (Ok text) × d.goes (seen_files d old) text puts

-- Status 0: the command comes to texts, and all are where they go.
abbrev pub DoneBy : World → World → Description → Type 0
DoneBy old new d = (puts : List Put) × HasPuts d old puts × ArePut puts old new

-- Status 1: the command comes to the fault of the line, and nothing changed.
abbrev pub FaultBy : World → World → List ℕ → Description → Type 0
FaultBy old new line d =
    (fault : Fault) × Gives d old (Err fault)
    × (names : List (List ℕ)) × d.names (seen_files d old) fault names × (line ≡ line_of fault names)
    × Unchanged old new

-- Status 3: a read failed, of a path that the command reads, and nothing changed.
abbrev pub ReadBy : World → World → List ℕ → Description → Type 0
ReadBy old new line d =
    (path : List ℕ) × (line ≡ read_line path) × IfSome (seen_files d old) (λ files. d.unread files path)
    × Rose old.reads new.reads × Unchanged old new

-- Status 4: the command comes to texts, and one couldn't be put where it goes.
abbrev pub WriteBy : World → World → List ℕ → Description → Type 0
WriteBy old new line d = (puts : List Put) × HasPuts d old puts × AreUnput puts old new line

module _ {C : Type 0} (described : C → Description) (conf : Option C) (old new : World) where
  -- A line was said, and the command's call ended with it.
  abbrev pub EndsWith : Stream → Stream → (List ℕ → Description → Type 0) → Type 0
  EndsWith before after Ended =
      (line : List ℕ) × IsSomeAnd conf (λ c. Ended line (described c)) × Says before after line

  -- The command comes to a text and nothing failed: so it is done, or memory ran out.
  abbrev pub Completes : ℕ → Type 0
  Completes status =
      (c : C) (text : List ℕ) → conf ≡ Some c → ToldGives (described c) old (Ok text) → Quiet old new
      → (status ≡ 0) ⊎ (status ≡ 5)

  -- The command comes to a fault and nothing failed: so it is reported, or memory ran out.
  abbrev pub Reports : ℕ → Type 0
  Reports status =
      (c : C) (fault : Fault) → conf ≡ Some c → ToldGives (described c) old (Err fault) → Quiet old new
      → (status ≡ 1) ⊎ (status ≡ 5)

  -- A command that reads nothing touches no store.
  abbrev pub Spares : Type 0
  Spares = (c : C) → conf ≡ Some c → (described c).paths ≡ [] → IsSpared old new

  -- What each status of a call says: of the words' command, of the world before and after, and of the stream for
  -- messages. Reading the words takes memory, so it may run out where they give no command.
  pub record RunMeans (before after : Stream) (status : ℕ) : Type 0 where
    pub known : status ≤ 5
    pub done : status ≡ 0 → IsSomeAnd conf (λ c. DoneBy old new (described c)) × SaysNothing before after
    pub fault : status ≡ 1 → EndsWith before after (FaultBy old new)
    pub usage : status ≡ 2 → IsNone conf × Untouched old new × Says before after usage_line
    pub refused : IsNone conf → (status ≡ 2) ⊎ (status ≡ 5)
    pub read : status ≡ 3 → EndsWith before after (ReadBy old new)
    pub write : status ≡ 4 → EndsWith before after (WriteBy old new)
    pub memory : status ≡ 5 → Unchanged old new × Says before after memory_line
    pub completes : Completes status
    pub reports : Reports status
    pub spares : Spares
