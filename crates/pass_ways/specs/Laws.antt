-- What holds of passes along the lines of an order file.
use Rattle.std.specs.Prelude.{◌≡◌, ◌<◌, ◌++◌, ℕ, List, length}
use Rattle.bp_faults.specs.declared.fault.Fault.{Fault}
use Rattle.bp_faults.specs.declared.ids.NodeId.{NodeId}
use Rattle.serial_pass.specs.declared.plan.Plan.{Plan}
use Rattle.serial_pass.specs.Orders.{IsLegal, numbers}
use Rattle.pass_ways.specs.declared.way.OrderLine.{OrderLine}
use Rattle.pass_ways.specs.OrderFiles.{IsPart, IsRefused, Say}
use Rattle.pass_ways.specs.Visits.{visits}

-- A part of a pass has fewer entries than the plan has nodes.
abbrev pub PartsAreShort : Type 0
PartsAreShort = (plan : Plan) (order : List ℕ) → IsPart plan order → length order < plan.count

-- A legal order has as many entries as the plan has nodes.
abbrev pub LegalOrdersAreWhole : Type 0
LegalOrdersAreWhole = (plan : Plan) (order : List ℕ) → IsLegal plan order → length order ≡ plan.count

-- Behind some visits the lines say one legal order of a pass alone.
abbrev pub LinesSayOneOrder : Type 0
LinesSayOneOrder =
    (lines : List OrderLine) (before : List (ℕ × NodeId)) (pass : ℕ) (plan : Plan) (order other : List NodeId)
    → Say lines (before ++ visits pass order) → IsLegal plan (numbers order)
    → Say lines (before ++ visits pass other) → IsLegal plan (numbers other) → order ≡ other

-- Where they say one, they aren't refused.
abbrev pub RefusedHaveNoOrder : Type 0
RefusedHaveNoOrder =
    (lines : List OrderLine) (file : ℕ) (before : List (ℕ × NodeId)) (pass : ℕ) (plan : Plan) (fault : Fault)
    (order : List NodeId) → IsRefused lines file before pass plan fault
    → Say lines (before ++ visits pass order) → IsLegal plan (numbers order) → ⊥

-- They are refused with one fault alone.
abbrev pub OneRefusal : Type 0
OneRefusal =
    (lines : List OrderLine) (file : ℕ) (before : List (ℕ × NodeId)) (pass : ℕ) (plan : Plan) (fault other : Fault)
    → IsRefused lines file before pass plan fault → IsRefused lines file before pass plan other → fault ≡ other
