-- Results of nodes: what a pass makes of each node of a plan, by the meaning of its visitor.
use Rattle.std.specs.Prelude.{ℕ, List, [], ◌∷◌, Option, Some, None, Result, Ok, Err, ⊤}
use Rattle.bp_faults.specs.declared.fault.Fault.{Fault}
use Rattle.serial_pass.specs.declared.plan.Plan.{Plan}
use Rattle.serial_pass.specs.Plans.{predecessors}
use Rattle.serial_pass.specs.Heights.{unroll}

-- What became of a node: its visit made a result or has a fault, or a predecessor isn't done.
pub data NodeResult (O : Type 0) : Type 0 where
  Done : O → NodeResult O
  Bad : Fault → NodeResult O
  Poisoned : NodeResult O

module _ {O : Type 0} where
  -- What a visit makes of its node.
  abbrev pub result_of_visit : Result O Fault → NodeResult O
  result_of_visit (Ok out) = Done out
  result_of_visit (Err fault) = Bad fault

  -- One more result before the others, where they are all there.
  abbrev pub cons_if : O → Option (List O) → Option (List O)
  cons_if out None = None
  cons_if out (Some outs) = Some (out ∷ outs)

  -- What all of them made, where all are done.
  abbrev pub all_outs : List (NodeResult O) → Option (List O)
  all_outs [] = Some []
  all_outs (Done out ∷ rs) = cons_if out (all_outs rs)
  all_outs (Bad fault ∷ rs) = None
  all_outs (Poisoned ∷ rs) = None

  -- Poisoned where some predecessor isn't done, else what the meaning gives for the predecessors' results.
  abbrev pub judged_result : (List O → Result O Fault) → Option (List O) → NodeResult O
  judged_result mean None = Poisoned
  judged_result mean (Some outs) = result_of_visit (mean outs)

  -- The result of a node, by recursion over its predecessors. The layers above use its equation alone:
  -- `node_result mean plan n` is `judged_result (mean n) (all_outs (map (node_result mean plan) ns))`, where `ns` are
  -- `predecessors plan.edges n`.
  unfoldable pub node_result : (ℕ → List O → Result O Fault) → Plan → ℕ → NodeResult O
  node_result mean plan =
      unroll (predecessors plan.edges) (λ n rs. judged_result (mean n) (all_outs rs)) Poisoned plan.count

  -- The node's visit made a result.
  abbrev pub IsDone : NodeResult O → Type 0
  IsDone (Done out) = ⊤
  IsDone (Bad fault) = ⊥
  IsDone Poisoned = ⊥
