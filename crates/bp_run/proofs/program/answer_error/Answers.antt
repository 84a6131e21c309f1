use Rattle.bp_run.specs.World.{world, stream}
use Rattle.bp_run.proofs.Starting.{no_words}
use Rattle.bp_run.proofs.program.answer_error.Goals as goal

pub returns-in_default : goal.returns-in_default
returns-in_default g c =
    no_words c.args.kind c.in_default.not-OutOfMemory (world g.S.Store g.O.Sink c.args.store.now c.args.out.now)
    (world g.S.Store g.O.Sink c.run.new.store c.run.new.out) (stream g.D.Sink c.args.diag.now)
    (stream g.D.Sink c.run.new.diag) c.run.result c.run.ensures
