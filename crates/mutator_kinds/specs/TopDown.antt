-- What a rule from the top down makes of a graph.
use Rattle.std.specs.Prelude.{◌≡◌, ℕ, List, Result, Ok, Err}
use Rattle.bp_faults.specs.declared.fault.Fault.{Fault}
use Rattle.serial_pass.specs.Outcomes.{PassOutcomeMeans}
use Rattle.graph_nodes.specs.declared.graph.EdgeKind.{EdgeKind}
use Rattle.graph_nodes.specs.declared.graph.Node.{Node}
use Rattle.module_graph.specs.declared.direction.Direction.TheVariants.{TopDown}
use Rattle.module_graph.specs.Planned.{plan_of}
use Rattle.mutator_rules.specs.Arrivals.{kinds_into}
use Rattle.mutator_rules.specs.Outcomes.{KindOutcome, Made, FaultAt, NodesBeyond, EdgesBeyond}
use Rattle.variant_graphs.specs.Payloads.{with_payloads}

module _ {P : Type 0} (mean : List (Node P) → ℕ → List EdgeKind → List P → Result P Fault) (nodes : List (Node P)) where
  -- What the rule makes of a node, given the results of the nodes whose edges lead to it.
  abbrev pub from_above : ℕ → List P → Result P Fault
  from_above n ins = mean nodes n (kinds_into nodes n) ins

  -- Each payload becomes its node's result, or a node has a fault. The graph is as large as before.
  abbrev pub TopDownMeans : KindOutcome (List (Node P)) → Type 0
  TopDownMeans (Made new) =
      (outs : List P) × PassOutcomeMeans from_above (plan_of TopDown nodes) (Ok outs) × (new ≡ with_payloads nodes outs)
  TopDownMeans (FaultAt n fault) = PassOutcomeMeans from_above (plan_of TopDown nodes) (Err (n, fault))
  TopDownMeans (NodesBeyond m) = ⊥
  TopDownMeans (EdgesBeyond p) = ⊥
