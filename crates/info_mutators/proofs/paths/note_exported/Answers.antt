use Rattle.std.specs.Str.{bytes_eq}
use Rattle.info_mutators.specs.Info.{include_part}
use Rattle.info_mutators.specs.Inside.{values_behind}
use Rattle.info_mutators.proofs.Noted.{part_noted}
use Rattle.info_mutators.proofs.paths.note_exported.Goals as goal

pub loop-dependency-preserved : goal.loop-dependency-preserved
loop-dependency-preserved c =
    part_noted bytes_eq include_part c.args.dependencies.now c.loop-dependency.dependency-index c.dependency-item.result
    c.loop-dependency-test.true c.dependency-item.is
    (values_behind c.args.seen.now.keys) (values_behind c.loop-dependency.seen.keys)
    (values_behind c.note_exports.new.seen.keys) c.loop-dependency.invariant c.in_ok-note_exports.ensures
