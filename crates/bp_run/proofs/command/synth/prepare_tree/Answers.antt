use Rattle.bp_load.specs.Trees.{sources_given}
use Rattle.bp_run.proofs.Preparing.{synth_stopped}
use Rattle.bp_run.proofs.command.synth.prepare_tree.Goals as goal

pub returns-in-Err-clause-prepares : goal.returns-in-Err-clause-prepares
returns-in-Err-clause-prepares g c =
    synth_stopped c.args.words.now (sources_given c.args.files.now) c.requires.tree c.in-Err.stop
    c.end_over_tree.result c.in-Err.ensures c.end_over_tree.ensures
