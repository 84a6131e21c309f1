-- What holds of runs along lists of nodes, whatever a visitor means.
use Rattle.std.specs.Prelude.{◌≡◌, ℕ, List, Result}
use Rattle.bp_faults.specs.declared.fault.Fault.{Fault}
use Rattle.serial_pass.specs.declared.plan.Plan.{Plan}
use Rattle.serial_pass.specs.Plans.{IsPlan, HasNoCycle}
use Rattle.serial_pass.specs.Orders.{IsLegal}
use Rattle.pass_core.specs.OrderOutcomes.{OrderOutcome, IsOrderOutcome}

module _ (O : Type 0) where
  -- Runs along any two legal orders come to the same.
  abbrev pub LegalOrdersAgree : Type 0
  LegalOrdersAgree =
      (mean : ℕ → List O → Result O Fault) (plan : Plan) (order other : List ℕ) (x y : OrderOutcome O)
      → IsPlan plan → HasNoCycle plan.edges → IsLegal plan order → IsLegal plan other
      → IsOrderOutcome mean plan order x → IsOrderOutcome mean plan other y → x ≡ y

  -- A run along a list comes to one thing alone, whether the list is a legal order or not.
  abbrev pub OneOrderOutcome : Type 0
  OneOrderOutcome =
      (mean : ℕ → List O → Result O Fault) (plan : Plan) (order : List ℕ) (x y : OrderOutcome O)
      → IsPlan plan → HasNoCycle plan.edges
      → IsOrderOutcome mean plan order x → IsOrderOutcome mean plan order y → x ≡ y
