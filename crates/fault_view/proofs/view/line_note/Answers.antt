use Rattle.fault_view.proofs.Hints.{read_all_behind}
use Rattle.fault_view.proofs.view.line_note.Goals as goal

pub returns-clause-exact : goal.returns-clause-exact
returns-clause-exact g c =
    read_all_behind _ _ _ _ c.args.line.now _ c.in_ok-read.read c.in_ok-read.ensures c.in_ok-note.ensures.exact
