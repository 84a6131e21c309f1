-- The cycle that is reported where a walk in a graph returns to its start.
use Rattle.std.specs.Prelude.{◌≡◌, ◌≢◌, ◌<◌, ◌≤◌, ◌++◌, ℕ, List, [], ◌∷◌, map, Result, Ok, Err}
use Rattle.std.specs.List.{AllByRecursion}
use Rattle.bp_faults.specs.declared.fault.Fault.{Fault}
use Rattle.bp_faults.specs.declared.kind.FaultKind.TheVariants.{Cycle}
use Rattle.serial_pass.specs.declared.plan.PlanEdge.{PlanEdge}
use Rattle.graph_nodes.specs.declared.graph.Edge.{Edge}
use Rattle.graph_nodes.specs.declared.graph.Node.{Node}
use Rattle.graph_nodes.specs.Names.{name_at}
use Rattle.graph_nodes.specs.Nodes.{edges_at}
use Rattle.module_graph.specs.Graphs.{edges_of}
use Rattle.module_graph.specs.Walks.{Walk, Returns, NoneReturns}

-- The distance from n to s is the length of a shortest walk. From s to itself it is 0.
pub record IsDistance (edges : List PlanEdge) (s n distance : ℕ) : Type 0 where
  pub walk : Walk edges distance n s
  pub least : (k : ℕ) → Walk edges k n s → distance ≤ k

-- The start of the cycle is the least node that can reach itself by one or more edges.
pub record IsStart (edges : List PlanEdge) (s : ℕ) : Type 0 where
  pub returns : Returns edges s
  pub least : (n : ℕ) → n < s → Returns edges n → ⊥

-- Of some edges of a node, e is the first in order among those whose targets have the least distance to s.
pub record IsNearest (edges : List PlanEdge) (s : ℕ) (es : List Edge) (e : Edge) : Type 0 where
  pub before : List Edge
  pub after : List Edge
  pub distance : ℕ
  pub parts : es ≡ before ++ e ∷ after
  pub away : IsDistance edges s e.to.0 distance
  pub earlier : AllByRecursion (λ (x : Edge). (k : ℕ) → Walk edges k x.to.0 s → distance < k) before
  pub later : AllByRecursion (λ (x : Edge). (k : ℕ) → Walk edges k x.to.0 s → distance ≤ k) after

module _ {P : Type 0} where
  -- From n some edges lead to m: each is the nearest to s of the node at which it begins, and none begins at s.
  abbrev pub IsWay : List (Node P) → ℕ → ℕ → List Edge → ℕ → Type 0
  IsWay nodes s n [] m = n ≡ m
  IsWay nodes s n (e ∷ es) m = (n ≢ s) × IsNearest (edges_of nodes) s (edges_at nodes n) e × IsWay nodes s e.to.0 es m

  -- The cycle: from the start along the nearest edges, until the start is reached again.
  pub record IsCycle (nodes : List (Node P)) (s : ℕ) (first : Edge) (rest : List Edge) : Type 0 where
    pub start : IsStart (edges_of nodes) s
    pub begins : IsNearest (edges_of nodes) s (edges_at nodes s) first
    pub goes : IsWay nodes s first.to.0 rest s

-- The fault of a cycle stands at its first edge's place. Its chain lists the labels, the start's first and last.
abbrev pub cycle_fault : List (List ℕ) → ℕ → Edge → List Edge → Fault
cycle_fault names s first rest =
    record {
      kind =
          Cycle;
      at = first.at;
      subject = [];
      chain = name_at names s
          ∷ map (λ (e : Edge). name_at names e.to.0) (first ∷ rest);
    }

module _ {P : Type 0} where
  -- The fault that is reported of a graph.
  abbrev pub IsReported : List (Node P) → List (List ℕ) → Fault → Type 0
  IsReported nodes names fault =
      (s : ℕ) × (first : Edge) × (rest : List Edge) × IsCycle nodes s first rest
      × (fault ≡ cycle_fault names s first rest)

  -- What the cycle rule says of a graph: no walk returns, or the fault is reported.
  abbrev pub CycleMeans : List (Node P) → List (List ℕ) → Result Unit Fault → Type 0
  CycleMeans nodes names (Ok done) = NoneReturns (edges_of nodes)
  CycleMeans nodes names (Err fault) = IsReported nodes names fault
