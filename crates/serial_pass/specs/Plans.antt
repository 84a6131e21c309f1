-- Plans: which nodes of a graph a pass visits before which.
use Rattle.std.specs.Prelude.{◌<◌, ◌≤◌, ◌^◌, ◌==◌, ℕ, List, [], ◌∷◌, map, length, ⊤}
use Rattle.std.specs.List.{AllByRecursion, filter}
use Rattle.serial_pass.specs.declared.plan.Plan.{Plan}
use Rattle.serial_pass.specs.declared.plan.PlanEdge.{PlanEdge}

-- The edges into a node, in the order in which the node receives them.
abbrev pub in_edges : List PlanEdge → ℕ → List PlanEdge
in_edges edges n = filter (λ (e : PlanEdge). e.to.0 == n) edges

-- The sources of some edges, one per edge.
abbrev pub sources : List PlanEdge → List ℕ
sources edges = map (λ (e : PlanEdge). e.from.0) edges

-- The predecessors of a node, one for each of its in-edges: a predecessor is counted once per edge.
abbrev pub predecessors : List PlanEdge → ℕ → List ℕ
predecessors edges n = sources (in_edges edges n)

-- The edges stand by their targets: none has a target below that of an edge before it.
abbrev pub StandByTarget : List PlanEdge → Type 0
StandByTarget [] = ⊤
StandByTarget (e ∷ es) = AllByRecursion (λ (later : PlanEdge). e.to.0 ≤ later.to.0) es × StandByTarget es

-- Both ends of every edge are below the count.
abbrev pub HaveEndsBelow : ℕ → List PlanEdge → Type 0
HaveEndsBelow count edges = AllByRecursion (λ (e : PlanEdge). (e.from.0 < count) × (e.to.0 < count)) edges

-- Both ends of every edge are nodes, the edges stand by target, and a `u32` numbers them.
pub record IsPlan (plan : Plan) : Type 0 where
  pub ends : HaveEndsBelow plan.count plan.edges
  pub by_target : StandByTarget plan.edges
  pub few : length plan.edges < 2 ^ 32

-- No walk along the edges returns to its start: some numbering of the nodes rises along every edge.
pub record HasNoCycle (edges : List PlanEdge) : Type 0 where
  pub rank : ℕ → ℕ
  pub rises : AllByRecursion (λ (e : PlanEdge). rank e.from.0 < rank e.to.0) edges
