use Rattle.serial_pass.proofs.Paths.{on_way_at_start}
use Rattle.serial_pass.proofs.height.settle.Goals as goal

pub loop-climb-init : goal.loop-climb-init
loop-climb-init c = rw (c.in_ok-settled.ensures, c.in_ok-path.ensures) (on_way_at_start c.args.plan.now)
