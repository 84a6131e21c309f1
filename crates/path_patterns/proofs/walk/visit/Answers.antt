use Rattle.std.proofs.Common.{arith}
use Rattle.path_patterns.specs.Stages.{way_of}
use Rattle.path_patterns.proofs.Places.{found_onward, ways_onward}
use Rattle.path_patterns.proofs.walk.visit.Goals as goal

pub loop-entry-preserved : goal.loop-entry-preserved
loop-entry-preserved c = record {
  found = found_onward (way_of c.args.parts.now c.args.dir.now) c.args.entries.now c.loop-entry.entry-index
      c.entry-item.result (omega arith) c.entry-item.is _ _ _ c.in_ok-enter.ensures.found c.loop-entry.invariant.found;
  ways = ways_onward (way_of c.args.parts.now c.args.dir.now) c.args.entries.now c.loop-entry.entry-index
      c.entry-item.result (omega arith) c.entry-item.is _ _ _ c.in_ok-enter.ensures.ways c.loop-entry.invariant.ways;
}
