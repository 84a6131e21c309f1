use Rattle.bp_load.specs.Trees.{sources_given}
use Rattle.bp_run.proofs.Inputs.{files_fail, order_fails, all_read}
use Rattle.bp_run.proofs.command.replay.read_inputs.Goals as goal

pub returns-in_err-files-clause-gives : goal.returns-in_err-files-clause-gives
returns-in_err-files-clause-gives g c =
    files_fail c.args.paths.now c.args.words.now.order _ c.in_err-files.field-0.0 c.from_residual.result
    c.from_residual.ensures.1 c.in_err-files.ensures.gives

pub returns-in_err-order-clause-gives : goal.returns-in_err-order-clause-gives
returns-in_err-order-clause-gives g c =
    order_fails c.args.paths.now c.args.words.now.order _ _ c.in_ok-files.ensures.files c.args.number
    c.requires.number (sources_given c.in_ok-files.files.items) c.in_ok-files.ensures.gives c.in_err-order.field-0.0
    c.from_residual-in_err-order.result c.from_residual-in_err-order.ensures.1 c.in_err-order.ensures.gives

pub returns-clause-gives : goal.returns-clause-gives
returns-clause-gives g c =
    all_read c.args.paths.now c.args.words.now.order _ _ c.in_ok-files.ensures.files c.args.number
    c.requires.number (sources_given c.in_ok-files.files.items) c.in_ok-files.ensures.gives c.in_ok-order.order.items
    c.in_ok-order.ensures.gives
