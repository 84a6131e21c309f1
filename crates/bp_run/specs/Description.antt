-- What a command is to the program.
use Rattle.std.specs.Prelude.{ℕ, List, [], ◌∷◌, Option, Some, Result}
use Rattle.std.specs.FinMap.{empty}
use Rattle.bp_faults.specs.declared.fault.Fault.{Fault}
use Rattle.bp_ports.specs.Files.{Files}
use Rattle.bp_run.specs.declared.put.Put.{Put}
use Rattle.bp_run.specs.World.{World}

-- What a command is to the program.
pub record Description : Type 1 where
  -- The paths among its words that it reads. Where there are none it has nothing to do with the store.
  pub paths : List (List ℕ)
  -- What it comes to over the files: a text, of which there may be several, or the first fault.
  pub gives : Files → Result (List ℕ) Fault → Type 0
  -- Where the text goes, and what goes beside it, for files that may be told.
  pub goes : Option Files → List ℕ → List Put → Type 0
  -- The names of files by their numbers, by which the line of a fault tells its place.
  pub names : Option Files → Fault → List (List ℕ) → Type 0
  -- The paths of which each may be the one that couldn't be read, since nothing before it has a fault.
  pub unread : Files → List ℕ → Type 0

-- The files that are seen by a command that reads these paths, where the store tells them.
abbrev pub seen_by : List (List ℕ) → Option Files → Option Files
seen_by [] told = Some empty
seen_by (path ∷ paths) told = told

-- The files that a command sees.
abbrev pub seen_files : Description → World → Option Files
seen_files d old = seen_by d.paths old.files
