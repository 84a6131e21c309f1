-- What holds of every plan without a cycle, whatever a visitor means.
use Rattle.std.specs.Prelude.{◌≡◌, ◌<◌, ◌≤◌, ◌+◌, ◌-◌, ◌↔◌, ℕ, List, map, length, take, drop, slice_index}
use Rattle.std.specs.Prelude.{slice_index_or, Result, Ok}
use Rattle.std.specs.List.{AllByRecursion, Contains, range_with_len}
use Rattle.bp_faults.specs.declared.fault.Fault.{Fault}
use Rattle.bp_faults.specs.Order.{Gathers}
use Rattle.serial_pass.specs.declared.plan.Plan.{Plan}
use Rattle.serial_pass.specs.declared.plan.PlanEdge.{PlanEdge}
use Rattle.serial_pass.specs.Plans.{in_edges, predecessors, StandByTarget, HaveEndsBelow, IsPlan, HasNoCycle}
use Rattle.serial_pass.specs.InEdges.{edges_below, numbers_into}
use Rattle.serial_pass.specs.Heights.{height, above_all, unroll, IsBefore}
use Rattle.serial_pass.specs.Results.{NodeResult, Bad, all_outs, judged_result, node_result}
use Rattle.serial_pass.specs.Orders.{IsSerial, IsLegal}
use Rattle.serial_pass.specs.Outcomes.{IsFirstUndone, PassOutcomeMeans, PassMeans}

-- Where edges stand by target, the edges into a node are those between two indices.
abbrev pub InEdgesAreTogether : Type 0
InEdgesAreTogether =
    (edges : List PlanEdge) (n : ℕ) → StandByTarget edges
    → take (edges_below edges (n + 1) - edges_below edges n) (drop (edges_below edges n) edges) ≡ in_edges edges n

-- So are the numbers of these edges.
abbrev pub EdgeNumbersAreTogether : Type 0
EdgeNumbersAreTogether =
    (edges : List PlanEdge) (n : ℕ) → StandByTarget edges
    → numbers_into 0 edges n ≡ range_with_len (edges_below edges n) (edges_below edges (n + 1) - edges_below edges n)

-- These indices rise with the nodes, and none is past the edges.
abbrev pub StartsOfEdgesRise : Type 0
StartsOfEdgesRise =
    (edges : List PlanEdge) (n : ℕ)
    → (edges_below edges n ≤ edges_below edges (n + 1)) × (edges_below edges n ≤ length edges)

-- Where edges stand by target, an edge leads below a node exactly where its index is below that at which the in-edges
-- of the node begin.
abbrev pub IndicesTellTargets : Type 0
IndicesTellTargets =
    (edges : List PlanEdge) (n i : ℕ) (e : PlanEdge) → StandByTarget edges → i < length edges
    → ((slice_index_or edges i e).to.0 < n) ↔ (i < edges_below edges n)

-- The predecessors of a node are nodes.
abbrev pub PredecessorsAreNodes : Type 0
PredecessorsAreNodes =
    (count : ℕ) (edges : List PlanEdge) (n : ℕ) → HaveEndsBelow count edges
    → AllByRecursion (λ m. m < count) (predecessors edges n)

-- What rises along every edge is less at the predecessors of a node.
abbrev pub PredecessorsAreLess : Type 0
PredecessorsAreLess =
    (rank : ℕ → ℕ) (edges : List PlanEdge) (n : ℕ)
    → AllByRecursion (λ (e : PlanEdge). rank e.from.0 < rank e.to.0) edges
    → AllByRecursion (λ m. rank m < rank n) (predecessors edges n)

-- A node's height is one more than the greatest of its predecessors' heights, and 0 without predecessors.
abbrev pub HeightsMeetTheirEquation : Type 0
HeightsMeetTheirEquation =
    (plan : Plan) (n : ℕ) → IsPlan plan → HasNoCycle plan.edges → n < plan.count
    → height plan n ≡ above_all (map (height plan) (predecessors plan.edges n))

-- A node's height is below the number of nodes.
abbrev pub HeightsAreBelowTheCount : Type 0
HeightsAreBelowTheCount =
    (plan : Plan) (n : ℕ) → IsPlan plan → HasNoCycle plan.edges → n < plan.count → height plan n < plan.count

-- The predecessors of a node are nodes that come before it.
abbrev pub PredecessorsComeBefore : Type 0
PredecessorsComeBefore =
    (plan : Plan) (n : ℕ) → IsPlan plan → HasNoCycle plan.edges → n < plan.count
    → AllByRecursion (λ m. (m < plan.count) × IsBefore plan m n) (predecessors plan.edges n)

-- There is exactly one serial order.
abbrev pub OneSerialOrder : Type 0
OneSerialOrder =
    (plan : Plan) → IsPlan plan → HasNoCycle plan.edges
    → (order : List ℕ) × IsSerial plan order × ((other : List ℕ) → IsSerial plan other → other ≡ order)

-- The serial order is legal.
abbrev pub SerialIsLegal : Type 0
SerialIsLegal =
    (plan : Plan) (order : List ℕ) → IsPlan plan → HasNoCycle plan.edges → IsSerial plan order → IsLegal plan order

-- In the serial order the nodes that come before that at an index stand at earlier indices.
abbrev pub EarlierNodesStandEarlier : Type 0
EarlierNodesStandEarlier =
    (plan : Plan) (order : List ℕ) (m index : ℕ) → IsSerial plan order → m < plan.count → index < length order
    → IsBefore plan m (slice_index order index) → Contains (take index order) m

-- A value by recursion over predecessors is what the step makes of the predecessors' values.
abbrev pub RecursionMeetsItsEquation : Type 0 → Type 0
RecursionMeetsItsEquation X =
    (plan : Plan) (step : ℕ → List X → X) (base : X) (n : ℕ) → IsPlan plan → HasNoCycle plan.edges → n < plan.count
    → unroll (predecessors plan.edges) step base plan.count n
    ≡ step n (map (unroll (predecessors plan.edges) step base plan.count) (predecessors plan.edges n))

module _ (O : Type 0) where
  -- A node's result is poisoned where some predecessor's result isn't done, else what the meaning gives for the
  -- predecessors' results.
  abbrev pub ResultsMeetTheirEquation : Type 0
  ResultsMeetTheirEquation =
      (mean : ℕ → List O → Result O Fault) (plan : Plan) (n : ℕ) → IsPlan plan → HasNoCycle plan.edges → n < plan.count
      → node_result mean plan n
      ≡ judged_result (mean n) (all_outs (map (node_result mean plan) (predecessors plan.edges n)))

  -- Whatever meets that equation is the results.
  abbrev pub OneSolution : Type 0
  OneSolution =
      (mean : ℕ → List O → Result O Fault) (plan : Plan) (f : ℕ → NodeResult O) → IsPlan plan → HasNoCycle plan.edges
      → ((n : ℕ) → n < plan.count → f n ≡ judged_result (mean n) (all_outs (map f (predecessors plan.edges n))))
      → (n : ℕ) → n < plan.count → f n ≡ node_result mean plan n

  -- The first node in serial order whose result isn't done has a fault of its own: it is never poisoned.
  abbrev pub FirstUndoneIsBad : Type 0
  FirstUndoneIsBad =
      (mean : ℕ → List O → Result O Fault) (plan : Plan) (n : ℕ) → IsPlan plan → HasNoCycle plan.edges
      → IsFirstUndone (node_result mean plan) plan n → (fault : Fault) × (node_result mean plan n ≡ Bad fault)

  -- A pass has exactly one outcome.
  abbrev pub OneOutcome : Type 0
  OneOutcome =
      (mean : ℕ → List O → Result O Fault) (plan : Plan) → IsPlan plan → HasNoCycle plan.edges
      → (outcome : Result (List O) (ℕ × Fault)) × PassOutcomeMeans mean plan outcome
      × ((other : Result (List O) (ℕ × Fault)) → PassOutcomeMeans mean plan other → other ≡ outcome)

  -- A pass has at most one outcome, whatever its plan is.
  abbrev pub AtMostOneOutcome : Type 0
  AtMostOneOutcome =
      (mean : ℕ → List O → Result O Fault) (plan : Plan) (outcome other : Result (List O) (ℕ × Fault))
      → PassOutcomeMeans mean plan outcome → PassOutcomeMeans mean plan other → outcome ≡ other

  -- A pass that makes all results makes as many as there are nodes.
  abbrev pub OutsAreMany : Type 0
  OutsAreMany =
      (mean : ℕ → List O → Result O Fault) (plan : Plan) (outs : List O)
      → PassOutcomeMeans mean plan (Ok outs) → length outs ≡ plan.count

  -- Each of these is what the meaning gives for the results of the node's predecessors.
  abbrev pub OutsMeetTheirEquation : Type 0
  OutsMeetTheirEquation =
      (mean : ℕ → List O → Result O Fault) (plan : Plan) (outs : List O) (n : ℕ) (d : O)
      → IsPlan plan → HasNoCycle plan.edges → PassOutcomeMeans mean plan (Ok outs) → n < plan.count
      → mean n (map (λ m. slice_index_or outs m d) (predecessors plan.edges n)) ≡ Ok (slice_index_or outs n d)

  -- Where each node's meaning, over what a step makes of its predecessors, is what the step makes of the node, a pass
  -- gathers what the step makes of all nodes.
  abbrev pub PassGathers : Type 0
  PassGathers =
      (mean : ℕ → List O → Result O Fault) (step : ℕ → Result O Fault) (plan : Plan) (outcome : Result (List O) Fault)
      → IsPlan plan → HasNoCycle plan.edges
      → ((n : ℕ) (outs : List O) → n < plan.count → map Ok outs ≡ map step (predecessors plan.edges n)
      → mean n outs ≡ step n)
      → PassMeans mean plan outcome → Gathers (height plan) plan.count step outcome
