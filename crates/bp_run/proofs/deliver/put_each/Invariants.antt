use Rattle.std.proofs.Common.{take}
use Rattle.bp_run.specs.End.{ArePrints}
use Rattle.bp_run.specs.Puts.{ArePut}
use Rattle.bp_run.specs.World.{world, IsSpared}
use Rattle.bp_run.proofs.deliver.put_each.Given as goal

abbrev pub invariant-loop-index : goal.invariant-loop-index
invariant-loop-index g l =
    ArePut (take l.index l.puts) (world g.S.Store g.O.Sink l.fn.store l.fn.out) (world g.S.Store g.O.Sink l.store l.out)
    × (ArePrints l.puts
    → IsSpared (world g.S.Store g.O.Sink l.fn.store l.fn.out) (world g.S.Store g.O.Sink l.store l.out))
