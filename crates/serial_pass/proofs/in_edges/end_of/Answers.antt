use Rattle.std.proofs.Common.{◌+◌, arith}
use Rattle.serial_pass.proofs.InEdgesPlaced.{below_rises, below_le_length, ends_here, goes_on}
use Rattle.serial_pass.proofs.in_edges.end_of.Goals as goal

pub loop-end-init : goal.loop-end-init
loop-end-init c = let rises = below_rises c.args.edges.now c.args.n in (omega arith, omega arith)

pub loop-end-preserved : goal.loop-end-preserved
loop-end-preserved c = (
  omega arith,
  goes_on c.args.edges.now c.args.n c.loop-end.end _ c.requires.by_target c.loop-end-test.true c.if-edges-end.true,
)

pub returns-else-edges-end : goal.returns-else-edges-end
returns-else-edges-end c =
    ends_here c.args.edges.now c.args.n c.loop-end.end _ c.requires.by_target c.loop-end-test.true
    c.loop-end.invariant.0 c.loop-end.invariant.1 c.if-edges-end.false

pub returns-after-loop-end : goal.returns-after-loop-end
returns-after-loop-end c = let inside = below_le_length c.args.edges.now (c.args.n + 1) in omega arith
