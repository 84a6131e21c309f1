-- What a command has done, by what it came to and by how its texts were put.
use Rattle.std.proofs.Common.{◌≡◌, ◌∙◌, ℕ, [], Vec, Option, Some, Ok, refl, arith}
use Rattle.std.specs.declared.alloc.Global.{Global}
use Rattle.bp_ports.specs.Files.{Files}
use Rattle.bp_run.specs.declared.end.End.{End}
use Rattle.bp_run.specs.declared.put.Put.{Put}
use Rattle.bp_run.specs.Description.{Description, seen_files}
use Rattle.bp_run.specs.End.{Ended, EndsPutting}
use Rattle.bp_run.specs.Puts.{ArePut}
use Rattle.bp_run.specs.Steps.{Prepares}
use Rattle.bp_run.specs.World.{World}
use Rattle.bp_run.proofs.Putting.{puts_first, unputs_first}

module _ {C : Type 0} (described : C → Description) (c : C) (old new : World) where
  -- its texts were put, or couldn't be
  pub ended_put : (puts : Vec Put Global) (between : World) (end : End)
      → Prepares (described c) (seen_files (described c) old) (Ok puts) → ArePut [] old between
      → EndsPutting puts.items between new end → Ended described (Some c) old new end
  ended_put puts between End.Done has before h = (puts.items, has, puts_first puts.items old between new before h)
  ended_put puts between (End.Fault line) has before h = absurd h
  ended_put puts between End.Usage has before h = absurd h
  ended_put puts between (End.Read line) has before h = absurd h
  ended_put puts between (End.Write line) has before h =
      (puts.items, has, unputs_first puts.items old between new line before h)
  ended_put puts between End.OutOfMemory has before h =
      record { files = h.files ∙ before.0.files; out = h.out ∙ before.0.out }

-- reading puts nothing
pub read_puts_none : (old : World) (files : Option Files) (reads writes : ℕ) → files ≡ old.files
    → writes ≡ old.writes
    → ArePut [] old (record { files = files; reads = reads; writes = writes; out = old.out; puts = old.puts })
read_puts_none old files reads writes same_files same_writes = (
  record { files = same_files; out = refl },
  record { writes = omega (arith, same_writes); puts = omega arith },
)
