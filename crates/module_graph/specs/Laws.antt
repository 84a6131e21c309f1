-- What holds of every graph and its plans.
use Rattle.std.specs.Prelude.{◌≡◌, ◌<◌, ◌≤◌, ◌↔◌, ◌++◌, ℕ, suc, List, [], ◌∷◌, map, length, Result}
use Rattle.bp_faults.specs.declared.fault.Fault.{Fault}
use Rattle.serial_pass.specs.declared.plan.PlanEdge.{PlanEdge}
use Rattle.serial_pass.specs.Plans.{HaveEndsBelow, HasNoCycle, IsPlan, in_edges, predecessors}
use Rattle.graph_nodes.specs.declared.graph.Edge.{Edge}
use Rattle.graph_nodes.specs.declared.graph.Node.{Node}
use Rattle.graph_nodes.specs.Nodes.{targets, NameNodes}
use Rattle.module_graph.specs.declared.direction.Direction.{Direction}
use Rattle.module_graph.specs.declared.direction.Direction.TheVariants.{BottomUp, TopDown}
use Rattle.module_graph.specs.Cycles.{IsCycle, IsReported, CycleMeans}
use Rattle.module_graph.specs.Graphs.{outward, edges_of, IsNumbered, IsValid}
use Rattle.module_graph.specs.Planned.{by_target, plan_edges, plan_of}
use Rattle.module_graph.specs.Walks.{Walk, Returns, NoneReturns}

-- No walk along some edges returns to its start exactly where a numbering of the nodes rises along each edge.
abbrev pub NoneReturnsWhereNumberingRises : Type 0
NoneReturnsWhereNumberingRises =
    (count : ℕ) (edges : List PlanEdge) → HaveEndsBelow count edges → NoneReturns edges ↔ HasNoCycle edges

-- Each node receives the same edges in the same order where the edges are sorted by target.
abbrev pub InEdgesStayByTarget : Type 0
InEdgesStayByTarget =
    (edges : List PlanEdge) (count n : ℕ) → n < count → in_edges (by_target count edges) n ≡ in_edges edges n

module _ (P : Type 0) where
  -- The edges of a graph lead from nodes to nodes.
  abbrev pub EdgesJoinNodes : Type 0
  EdgesJoinNodes = (nodes : List (Node P)) → NameNodes nodes → HaveEndsBelow (length nodes) (edges_of nodes)

  -- One node more, at the end, adds its own edges to those of a graph.
  abbrev pub OneMoreNode : Type 0
  OneMoreNode =
      (nodes : List (Node P)) (x : Node P)
      → edges_of (nodes ++ x ∷ []) ≡ edges_of nodes ++ map (outward (length nodes)) x.edges

  -- The plan of a graph, in either direction, can be visited as far as its form goes.
  abbrev pub PlansOfGraphsArePlans : Type 0
  PlansOfGraphsArePlans = (nodes : List (Node P)) (dir : Direction) → IsNumbered nodes → IsPlan (plan_of dir nodes)

  -- No walk in a graph returns to its start exactly where its plan has no cycle, in either direction.
  abbrev pub NoneReturnsWherePlansHaveNoCycle : Type 0
  NoneReturnsWherePlansHaveNoCycle =
      (nodes : List (Node P)) (dir : Direction) → NameNodes nodes
      → NoneReturns (edges_of nodes) ↔ HasNoCycle (plan_edges dir nodes)

  -- The plan of a valid graph has no cycle, in either direction.
  abbrev pub ValidPlansHaveNoCycle : Type 0
  ValidPlansHaveNoCycle =
      (nodes : List (Node P)) (dir : Direction) → IsValid nodes → HasNoCycle (plan_edges dir nodes)

  -- From the bottom up the predecessors of a node are the targets of its edges, in order.
  abbrev pub PredecessorsAreTargets : Type 0
  PredecessorsAreTargets =
      (nodes : List (Node P)) (n : ℕ) → predecessors (plan_edges BottomUp nodes) n ≡ targets nodes n

  -- From the top down the predecessors of a node are the sources of the edges that lead to it, by node and index.
  abbrev pub PredecessorsAreSources : Type 0
  PredecessorsAreSources =
      (nodes : List (Node P)) (n : ℕ) → n < length nodes
      → predecessors (plan_edges TopDown nodes) n ≡ predecessors (edges_of nodes) n

  -- A fault is reported of a graph exactly where a walk returns to its start.
  abbrev pub ReportedWhereAWalkReturns : Type 0
  ReportedWhereAWalkReturns =
      (nodes : List (Node P)) (names : List (List ℕ)) → NameNodes nodes
      → ((fault : Fault) × IsReported nodes names fault) ↔ ((n : ℕ) × Returns (edges_of nodes) n)

  -- The cycle rule says one thing of a graph, and no other.
  abbrev pub OneCycleMeaning : Type 0
  OneCycleMeaning =
      (nodes : List (Node P)) (names : List (List ℕ)) → NameNodes nodes
      → (said : Result Unit Fault) × CycleMeans nodes names said
      × ((other : Result Unit Fault) → CycleMeans nodes names other → said ≡ other)

  -- The cycle rule says at most one thing, also where an edge names no node.
  abbrev pub AtMostOneCycleMeaning : Type 0
  AtMostOneCycleMeaning =
      (nodes : List (Node P)) (names : List (List ℕ)) (said other : Result Unit Fault)
      → CycleMeans nodes names said → CycleMeans nodes names other → said ≡ other

  -- The reported cycle is a walk from its start back to it, and no walk of one or more edges from there and back is
  -- shorter.
  abbrev pub TheCycleIsShortest : Type 0
  TheCycleIsShortest =
      (nodes : List (Node P)) (s : ℕ) (first : Edge) (rest : List Edge) → IsCycle nodes s first rest
      → Walk (edges_of nodes) (suc (length rest)) s s
      × ((k : ℕ) → Walk (edges_of nodes) (suc k) s s → length rest ≤ k)
