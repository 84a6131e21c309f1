-- What bodies use where they test an order. No public contract speaks of it.
use Rattle.std.specs.Prelude.{◌<◌, ℕ, List, Bool}
use Rattle.std.specs.List.{AllByRecursion}
use Rattle.serial_pass.specs.declared.plan.Plan.{Plan}
use Rattle.serial_pass.specs.Plans.{predecessors}
use Rattle.pass_core.specs.CoreStates.{IsMarked, IsUnmarked}

-- By the marks of the visited nodes a node is ready: it is a node, isn't marked, and its predecessors are.
abbrev pub IsReadyByMarks : Plan → List Bool → ℕ → Type 0
IsReadyByMarks plan visited n =
    (n < plan.count) × IsUnmarked visited n × AllByRecursion (IsMarked visited) (predecessors plan.edges n)
