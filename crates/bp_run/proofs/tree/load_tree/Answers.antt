use Rattle.std.proofs.Common.{[], ◌∷◌, subst}
use Rattle.bp_run.specs.Steps.{Stopped}
use Rattle.bp_run.proofs.Preparing.{list_stopped}
use Rattle.bp_run.proofs.tree.load_tree.Goals as goal

pub returns-in-Err-clause-loads : goal.returns-in-Err-clause-loads
returns-in-Err-clause-loads g c =
    list_stopped c.args.list.now (g.S.Store.files c.args.store.now) c.in-Err.stop c.end_by_stop.result
    c.in-Err.ensures.gives
    (subst (λ list. Stopped (list ∷ []) c.in-Err.stop c.end_by_stop.result) c.as_str.ensures c.end_by_stop.ensures)
