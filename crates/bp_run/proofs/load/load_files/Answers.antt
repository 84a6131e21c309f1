use Rattle.bp_load.specs.Trees.{sources_given}
use Rattle.bp_run.proofs.Counted.{few_modules}
use Rattle.bp_run.proofs.load.load_files.Goals as goal

pub returns-clause-few : goal.returns-clause-few
returns-clause-few g c =
    few_modules (sources_given c.args.files.now) c.in_ok-loaded.loaded.modules.items c.in_ok-loaded.ensures
