use Rattle.std.proofs.Common.{List, Vec, ◌∷◌, Err, subst}
use Rattle.std.specs.Prelude.{IfSome}
use Rattle.std.specs.declared.alloc.Global.{Global}
use Rattle.bp_props.specs.declared.module.Module.{Module}
use Rattle.bp_run.specs.Steps.{GivesOrStops, Stopped}
use Rattle.bp_run.specs.Tree.{ListedFilesLoad, CannotReadOf}
use Rattle.bp_run.proofs.Preparing.{paths_stopped}
use Rattle.bp_run.proofs.tree.load_paths.Goals as goal

pub returns-in-Err-clause-loads : goal.returns-in-Err-clause-loads
returns-in-Err-clause-loads g c =
    let paths = c.args.paths.items in
    let stop = c.in-Err.stop in
    let end = c.end_by_stop.result in
    paths_stopped c.args.list.now (g.S.Store.files c.args.store.now) paths c.requires.listed stop end
    (subst (λ paths. IfSome (g.S.Store.files c.args.store.now) (λ files. GivesOrStops {T = Vec Module Global}
    {V = List Module} (λ typed. typed.items) (ListedFilesLoad files paths) (CannotReadOf files paths) (Err stop)))
    c.deref.ensures.value c.in-Err.ensures.gives)
    (subst (λ list. Stopped (list ∷ paths) stop end) c.as_str.ensures
    (subst (λ paths. Stopped (c.as_str.result.now ∷ paths) stop end) c.deref-in-Err.ensures.value
    c.end_by_stop.ensures))
