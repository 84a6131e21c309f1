use Rattle.std.proofs.Common.{subst}
use Rattle.bp_run.specs.Commands.{description_of}
use Rattle.bp_run.specs.End.{EndsPutting}
use Rattle.bp_run.specs.World.{world}
use Rattle.bp_run.proofs.Running.{ended_put, read_puts_none}
use Rattle.bp_run.proofs.command.run_command.Goals as goal

pub returns-in-Ok-clause-ended : goal.returns-in-Ok-clause-ended
returns-in-Ok-clause-ended g c =
    let old = world g.S.Store g.O.Sink c.args.store.now c.args.out.now in
    let between = world g.S.Store g.O.Sink c.prepare.new.store c.args.out.now in
    let new = world g.S.Store g.O.Sink c.deliver.new.store c.deliver.new.out in
    ended_put description_of c.args.command.now old new c.in-Ok.puts between c.deliver.result c.in-Ok.ensures.prepares
    (read_puts_none old between.files between.reads between.writes c.in-Ok.ensures.files c.in-Ok.ensures.writes)
    (subst (λ puts. EndsPutting puts between new c.deliver.result) c.deref.ensures.value c.deliver.ensures.ends)
