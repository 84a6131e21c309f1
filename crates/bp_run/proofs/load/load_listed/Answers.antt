use Rattle.std.proofs.Common.{List, Vec, subst}
use Rattle.std.specs.declared.alloc.Global.{Global}
use Rattle.bp_props.specs.declared.module.Module.{Module}
use Rattle.bp_load.specs.Loaded.{LoadMeans}
use Rattle.bp_load.specs.Trees.{sources_given}
use Rattle.bp_run.specs.Steps.{GivesOrStops}
use Rattle.bp_run.proofs.Meeting.{Never}
use Rattle.bp_run.proofs.Making.{tree_loaded}
use Rattle.bp_run.proofs.load.load_listed.Goals as goal

pub returns-clause-gives : goal.returns-clause-gives
returns-clause-gives g c =
    tree_loaded c.args.paths.now _
    (sources_given c.in_ok-files.files.items) c.load_files.result c.in_ok-files.ensures.gives
    (subst (λ files. GivesOrStops {T = Vec Module Global} {V = List Module} (λ typed. typed.items)
    (LoadMeans (sources_given files)) Never c.load_files.result) c.deref.ensures.value c.load_files.ensures.gives)
