use Rattle.std.proofs.Common.{[], ◌∷◌, subst}
use Rattle.bp_run.specs.Steps.{Stopped}
use Rattle.bp_run.proofs.Preparing.{replay_list_stopped}
use Rattle.bp_run.proofs.command.replay.prepare.Goals as goal

pub returns-in-Err-clause-prepares : goal.returns-in-Err-clause-prepares
returns-in-Err-clause-prepares g c =
    replay_list_stopped c.args.words.now (g.S.Store.files c.args.store.now) c.in-Err.stop c.end_by_stop.result
    c.in-Err.ensures.gives
    (subst (λ list. Stopped (list ∷ []) c.in-Err.stop c.end_by_stop.result) c.as_str.ensures c.end_by_stop.ensures)
