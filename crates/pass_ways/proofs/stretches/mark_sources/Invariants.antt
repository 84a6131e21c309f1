use Rattle.std.proofs.Common.{take}
use Rattle.std.specs.Prelude.{slice_index}
use Rattle.std.specs.List.{AllByRecursion}
use Rattle.pass_core.specs.CoreStates.{IsMarked}
use Rattle.serial_pass.specs.Plans.{sources}
use Rattle.pass_ways.specs.Stretches.{KeepsMarks}
use Rattle.pass_ways.proofs.stretches.mark_sources.Given as goal

abbrev pub invariant-loop-edge : goal.invariant-loop-edge
invariant-loop-edge l = KeepsMarks l.initial.marks l.marks
    × AllByRecursion (λ m. IsMarked l.marks (slice_index l.table m)) (sources (take l.edge-index l.edges))
