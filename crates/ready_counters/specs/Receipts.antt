-- What contracts see of a receipt.
use Rattle.std.specs.Prelude.{List}
use Rattle.bp_faults.specs.declared.ids.NodeId.{NodeId}
use Rattle.serial_pass.specs.declared.plan.Plan.{Plan}

-- The plan of the board that was closed, and the order of its tickets.
pub record ReceiptView : Type 0 where
  pub plan : Plan
  pub order : List NodeId
