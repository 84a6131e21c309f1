use Rattle.std.specs.Str.{bytes_eq}
use Rattle.info_mutators.specs.Inside.{values_behind}
use Rattle.info_mutators.proofs.Noted.{one_noted}
use Rattle.info_mutators.proofs.paths.note_all.Goals as goal

pub loop-path-preserved : goal.loop-path-preserved
loop-path-preserved c =
    one_noted bytes_eq (values_behind c.args.seen.now.keys) (values_behind c.loop-path.seen.keys)
    (values_behind c.note_if_short.new.seen.keys) c.args.paths.now c.loop-path.path-index c.path-item.result
    c.loop-path-test.true c.path-item.is c.loop-path.invariant c.in_ok-note_if_short.ensures
