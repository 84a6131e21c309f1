use Rattle.command_words.specs.Words.{configuration_of}
use Rattle.bp_run.specs.Commands.{description_of}
use Rattle.bp_run.proofs.Ending.{apart_of, ended}
use Rattle.bp_run.proofs.top.run.Goals as goal

pub returns : goal.returns
returns g c =
    rw c.status.ensures
    (ended description_of (apart_of description_of c.one_outcome.ensures)
    (configuration_of c.args.words.now) _ _ _ _ c.run_words-end.ensures.spares
    c.run_words-end.result c.run_words-end.ensures.ended c.report.ensures)
