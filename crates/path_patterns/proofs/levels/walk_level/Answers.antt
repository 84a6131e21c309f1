use Rattle.std.proofs.Common.{◌∙◌, arith}
use Rattle.std.proofs.lemmas.Result.{err_from_is_err_and}
use Rattle.path_patterns.proofs.Progress.{level_onward, level_stops, level_ends, level_falls}
use Rattle.path_patterns.proofs.levels.walk_level.Goals as goal

pub returns-in_err-walk_one-clause-gives : goal.returns-in_err-walk_one-clause-gives
returns-in_err-walk_one-clause-gives g c =
    let refused = err_from_is_err_and c.from_residual.result c.from_residual.ensures.1 in
    rw (refused.1, refused.2)
    (level_stops c.args.parts.now c.args.level.now c.args.found.now.items _ _ _ _ c.loop-dir.dir-index
    c.loop-dir.found.items c.loop-dir.next.items c.loop-dir.invariant.0 c.dir-item.result
    (g.D.Directories.last c.walk_one.new.dirs) (omega arith) c.dir-item.is c.in_err-walk_one.field-0.0
    c.in_err-walk_one.ensures.gives)

pub loop-dir-preserved : goal.loop-dir-preserved
loop-dir-preserved g c = (
  level_onward c.args.parts.now c.args.level.now c.args.found.now.items _ _ _ _ c.loop-dir.dir-index
      c.loop-dir.found.items c.loop-dir.next.items c.loop-dir.invariant.0 c.dir-item.result _
      (omega arith) c.dir-item.is _ _
      c.walk_one.new.found.items c.walk_one.new.next.items c.in_ok-walk_one.ensures.gives c.in_ok-walk_one.ensures.found
      c.in_ok-walk_one.ensures.ways c.walk_one.ensures.held c.walk_one.ensures.cause.later,
  c.walk_one.ensures.kept ∙ c.loop-dir.invariant.1,
  c.walk_one.ensures.ready,
)

pub returns-clause-gives : goal.returns-clause-gives
returns-clause-gives g c =
    level_ends c.args.parts.now c.args.level.now c.args.found.now.items _ _ _ _ c.loop-dir.dir-index
    c.loop-dir.found.items c.loop-dir.next.items c.loop-dir.invariant.0 (omega arith)

pub returns-clause-falls : goal.returns-clause-falls
returns-clause-falls g c =
    level_falls c.args.parts.now c.args.level.now c.args.found.now.items _ _ _ _ c.loop-dir.dir-index
    c.loop-dir.found.items c.loop-dir.next.items c.loop-dir.invariant.0
