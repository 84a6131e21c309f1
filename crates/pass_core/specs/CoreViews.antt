-- What a contract sees of a core.
use Rattle.serial_pass.specs.declared.plan.Plan.{Plan}
use Rattle.pass_core.specs.CoreStates.{CoreState}

-- A core has its plan and its visitor, and is in a state.
pub record CoreView (V O : Type 0) : Type 0 where
  pub plan : Plan
  pub visitor : V
  pub state : CoreState O
