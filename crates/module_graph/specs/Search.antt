-- What a search for distances has found, level by level. No public contract speaks of it.
use Rattle.std.specs.Prelude.{◌≡◌, ◌<◌, ◌≤◌, ◌++◌, ℕ, suc, List, [], ◌∷◌, length, Contains, Option, Some, None}
use Rattle.std.specs.Prelude.{slice_index, slice_index_or, slice_set, count_by, is_none, nat_lt, if◌then◌else◌}
use Rattle.std.specs.List.{AllByRecursion}
use Rattle.serial_pass.specs.declared.plan.PlanEdge.{PlanEdge}
use Rattle.serial_pass.specs.Plans.{in_edges}
use Rattle.graph_nodes.specs.declared.graph.Edge.{Edge}
use Rattle.graph_nodes.specs.declared.graph.Node.{Node}
use Rattle.graph_nodes.specs.Nodes.{edges_at}
use Rattle.module_graph.specs.declared.nearest.Near.{Near}
use Rattle.module_graph.specs.declared.start.Start.{Start}
use Rattle.module_graph.specs.Graphs.{edges_of}
use Rattle.module_graph.specs.Walks.{Walk, NoneReturns}
use Rattle.module_graph.specs.Cycles.{IsDistance, IsStart}

-- The distance of a node, where one was found.
abbrev pub found_at : List (Option ℕ) → ℕ → Option ℕ
found_at found n = slice_index_or found n None

-- The distances to s are found of every node from which a walk leads there, and of no other.
pub record AreDistances (edges : List PlanEdge) (s : ℕ) (found : List (Option ℕ)) : Type 0 where
  pub right : (n distance : ℕ) → found_at found n ≡ Some distance → IsDistance edges s n distance
  pub all : (n k : ℕ) → found_at found n ≡ None → Walk edges k n s → ⊥

-- Each of some edges begins at most that far away.
abbrev pub BeginWithin : List PlanEdge → ℕ → List (Option ℕ) → Type 0
BeginWithin es level found =
    AllByRecursion (λ (e : PlanEdge). (c : ℕ) × (found_at found e.from.0 ≡ Some c) × (c ≤ level)) es

-- The search has reached all nodes before a level, and those at that level from the first i nodes in front, which
-- are the nodes one step nearer; `next` are the nodes at that level so far.
pub record IsGrowing (edges : List PlanEdge) (s level : ℕ) (front : List ℕ) (i : ℕ)
    (found : List (Option ℕ)) (next : List ℕ) : Type 0 where
  pub start : found_at found s ≡ Some 0
  pub sound : (n d : ℕ) → found_at found n ≡ Some d → Walk edges d n s
  pub capped : (n d : ℕ) → found_at found n ≡ Some d → d ≤ level
  pub older : (n d : ℕ) → found_at found n ≡ Some d → suc d < level → BeginWithin (in_edges edges n) (suc d) found
  pub waiting : (n d : ℕ) → found_at found n ≡ Some d → suc d ≡ level → Contains front n
  pub given : (k : ℕ) → k < length front → (d : ℕ) × (found_at found (slice_index front k) ≡ Some d) × (suc d ≡ level)
  pub done : (k d : ℕ) → k < i → k < length front → found_at found (slice_index front k) ≡ Some d
      → BeginWithin (in_edges edges (slice_index front k)) (suc d) found
  pub last : (n : ℕ) → found_at found n ≡ Some level → Contains next n
  pub fresh : (k : ℕ) → k < length next → found_at found (slice_index next k) ≡ Some level

-- The search goes over all nodes in front, whichever node it searches for.
abbrev pub GrowsPast : List PlanEdge → ℕ → List ℕ → List (Option ℕ) → List (Option ℕ) → List ℕ → Type 0
GrowsPast edges level front found found' next' =
    (s : ℕ) → IsGrowing edges s level front 0 found [] → IsGrowing edges s level front (length front) found' next'

-- A node is given a level, unless it has one.
pub record IsGiven (n level : ℕ) (found : List (Option ℕ)) (next : List ℕ)
    (found' : List (Option ℕ)) (next' : List ℕ) : Type 0 where
  pub new : found_at found n ≡ None → (found' ≡ slice_set found n (Some level)) × (next' ≡ next ++ n ∷ [])
  pub old : (d : ℕ) → found_at found n ≡ Some d → (found' ≡ found) × (next' ≡ next)

-- How many nodes have no distance yet.
abbrev pub unfound : List (Option ℕ) → ℕ
unfound found = count_by is_none found

-- The first edge among those whose targets have the least distance, by the distances found.
abbrev pub IsNearestFound : List (Option ℕ) → List Edge → Option Near → Type 0
IsNearestFound found es None = AllByRecursion (λ (e : Edge). found_at found e.to.0 ≡ None) es
IsNearestFound found es (Some best) =
    (before : List Edge) × (after : List Edge) × (es ≡ before ++ best.edge ∷ after)
    × (found_at found best.edge.to.0 ≡ Some best.distance)
    × AllByRecursion (λ (x : Edge). (c : ℕ) → found_at found x.to.0 ≡ Some c → best.distance < c) before
    × AllByRecursion (λ (x : Edge). (c : ℕ) → found_at found x.to.0 ≡ Some c → best.distance ≤ c) after

-- The nearer of an edge that was found and a later one.
abbrev pub nearer : Option Near → Edge → Option ℕ → Option Near
nearer best e None = best
nearer None e (Some d) = Some (record { edge = e; distance = d })
nearer (Some best) e (Some d) = if nat_lt d best.distance then Some (record { edge = e; distance = d }) else Some best

-- A start with what is needed to go on from it, or none where no walk returns.
abbrev pub IsFoundStart : {P : Type 0} → List (Node P) → Option Start → Type 0
IsFoundStart nodes None = NoneReturns (edges_of nodes)
IsFoundStart nodes (Some start) =
    (start.node < length nodes) × IsStart (edges_of nodes) start.node × (length start.found.items ≡ length nodes)
    × AreDistances (edges_of nodes) start.node start.found.items
    × IsNearestFound start.found.items (edges_at nodes start.node) (Some start.first)
