use Rattle.bp_run.proofs.Inputs.{reading_failed, read_then_made}
use Rattle.bp_run.proofs.command.replay.replay_listed.Goals as goal

pub returns-in_err-inputs-clause-gives : goal.returns-in_err-inputs-clause-gives
returns-in_err-inputs-clause-gives g c =
    reading_failed c.args.words.now c.args.paths.now _ c.in_err-inputs.field-0.0 c.from_residual.result
    c.from_residual.ensures.1 c.in_err-inputs.ensures.gives

pub returns-clause-gives : goal.returns-clause-gives
returns-clause-gives g c =
    read_then_made c.args.words.now c.args.paths.now _ c.order_number-number.result c.order_number-number.ensures
    c.in_ok-inputs.inputs c.replay_inputs.result
    c.in_ok-inputs.ensures.gives c.replay_inputs.ensures
