-- The plan of a graph is a plan.
use Rattle.std.proofs.Common.{◌<◌, length, arith}
use Rattle.std.specs.Prelude.{List}
use Rattle.serial_pass.specs.declared.plan.PlanEdge.{PlanEdge}
use Rattle.serial_pass.specs.Plans.{IsPlan}
use Rattle.graph_nodes.specs.declared.graph.Node.{Node}
use Rattle.module_graph.specs.declared.direction.Direction.{Direction}
use Rattle.module_graph.specs.declared.direction.Direction.TheVariants.{BottomUp, TopDown}
use Rattle.module_graph.specs.Graphs.{edges_of, IsNumbered}
use Rattle.module_graph.specs.Planned.{plan_of}
use Rattle.module_graph.proofs.Alls.{edges_of_ends}
use Rattle.module_graph.proofs.Ordered.{turned_is_plan}
use Rattle.module_graph.proofs.Sorted.{all_by_target, sorted_by_target, few_by_target}

pub plan_of_is_plan : {P : Type 0} (dir : Direction) (nodes : List (Node P)) → IsNumbered nodes
    → IsPlan (plan_of dir nodes)
plan_of_is_plan BottomUp nodes is = turned_is_plan nodes is
plan_of_is_plan TopDown nodes is = record {
  ends =
      all_by_target (edges_of nodes) (length nodes)
      (λ (e : PlanEdge). (e.from.0 < length nodes) × (e.to.0 < length nodes)) (edges_of_ends nodes is.ends);
  by_target = sorted_by_target (edges_of nodes) (length nodes);
  few = let less = few_by_target (edges_of nodes) (length nodes) in let few = is.few_edges in omega arith;
}
