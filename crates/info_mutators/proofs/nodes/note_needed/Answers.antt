use Rattle.std.proofs.Common.{nat_eq}
use Rattle.serial_pass.specs.Orders.{numbers}
use Rattle.info_mutators.specs.Dependencies.{Dependency}
use Rattle.info_mutators.specs.Info.{needed_part}
use Rattle.info_mutators.proofs.Noted.{part_noted}
use Rattle.info_mutators.proofs.nodes.note_needed.Goals as goal

pub loop-dependency-preserved : goal.loop-dependency-preserved
loop-dependency-preserved c =
    part_noted nat_eq (λ (d : Dependency). numbers (needed_part d)) c.args.dependencies.now
    c.loop-dependency.dependency-index c.dependency-item.result c.loop-dependency-test.true c.dependency-item.is
    c.args.notes.now c.loop-dependency.notes c.note_needed_part.new.notes c.loop-dependency.invariant
    c.in_ok-note_needed_part.ensures
