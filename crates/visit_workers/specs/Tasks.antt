-- What a worker's task keeps. No public contract speaks of it.
use Rattle.std.specs.Prelude.{◌≡◌, ℕ, List, Result, false}
use Rattle.bp_faults.specs.declared.fault.Fault.{Fault}
use Rattle.serial_pass.specs.declared.visit.Visit.{Ghosts}
use Rattle.ready_counters.specs.Seen.{view_of}
use Rattle.visit_workers.specs.declared.pass.Pass.{Pass}
use Rattle.visit_workers.specs.declared.task.Task.{Task}
use Rattle.visit_workers.specs.Making.{IsWorking}

module _ {V G O : Type 0} (mean : ℕ → List O → Result O Fault) (pass : Pass V G O) {W : Ghosts V O} where
  -- A task stands between two nodes.
  abbrev pub IsAtWork : Task V O W → Type 0
  IsAtWork task = IsWorking mean pass.plan.now (view_of task.seat) task.made.items

  -- So does a task that is done, unless memory ran out.
  abbrev pub HasWorked : Task V O W → Type 0
  HasWorked task = task.failed ≡ false → IsWorking mean pass.plan.now (view_of task.seat) task.made.items
