use Rattle.bp_run.proofs.Preparing.{replay_stopped}
use Rattle.bp_run.proofs.command.replay.prepare_listed.Goals as goal

pub returns-in-Err-clause-prepares : goal.returns-in-Err-clause-prepares
returns-in-Err-clause-prepares g c =
    replay_stopped c.args.words.now (g.S.Store.files c.args.store.now) c.args.paths.now c.requires.listed c.in-Err.stop
    c.end_with_order.result c.in-Err.ensures.gives c.end_with_order.ensures
