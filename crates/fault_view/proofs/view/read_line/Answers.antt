use Rattle.std.proofs.Common.{subst}
use Rattle.std.specs.Prelude.{IfOk, MatchOption}
use Rattle.fault_view.specs.Lines.{IsNoFaultLine, IsReadAs}
use Rattle.fault_view.proofs.view.read_line.Goals as goal

pub returns-in-Ok : goal.returns-in-Ok
returns-in-Ok c =
    subst (λ t. IfOk c.read_fault.result (λ read. MatchOption read (IsNoFaultLine t) (IsReadAs t)))
    c.in-Ok.ensures.cases.0 c.read_fault.ensures

pub returns-in-Err : goal.returns-in-Err
returns-in-Err c = λ f says. absurd (c.in-Err.ensures.cases.0 says.utf8)
