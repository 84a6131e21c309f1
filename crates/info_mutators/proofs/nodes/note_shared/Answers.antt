use Rattle.std.proofs.Common.{nat_eq}
use Rattle.serial_pass.specs.Orders.{numbers}
use Rattle.info_mutators.specs.Dependencies.{Dependency}
use Rattle.info_mutators.specs.Info.{shared_part}
use Rattle.info_mutators.proofs.Noted.{part_noted}
use Rattle.info_mutators.proofs.nodes.note_shared.Goals as goal

pub loop-dependency-preserved : goal.loop-dependency-preserved
loop-dependency-preserved c =
    part_noted nat_eq (λ (d : Dependency). numbers (shared_part d.node d.kind)) c.args.dependencies.now
    c.loop-dependency.dependency-index c.dependency-item.result c.loop-dependency-test.true c.dependency-item.is
    c.args.notes.now c.loop-dependency.notes c.note_shared_part.new.notes c.loop-dependency.invariant
    c.in_ok-note_shared_part.ensures
