-- Orders cut in stretches of one size, and the plan of the stretches.
use Rattle.std.specs.Prelude.{◌≡◌, ◌<◌, ◌≤◌, ◌+◌, ◌*◌, ◌/◌, ◌++◌, ℕ, Bool, List, [], ◌∷◌, length, take, drop}
use Rattle.std.specs.Prelude.{slice_index}
use Rattle.std.specs.List.{AllByRecursion, Contains}
use Rattle.serial_pass.specs.declared.plan.Plan.{Plan}
use Rattle.serial_pass.specs.declared.plan.PlanEdge.{PlanEdge}
use Rattle.pass_core.specs.CoreStates.{IsMarked}
use Rattle.pass_core.specs.OrderOutcomes.{IsReadyAfter}
use Rattle.serial_pass.specs.Plans.{predecessors, sources, HasNoCycle, IsPlan, StandByTarget}

-- How many nodes a stretch has at most, so that there are some sixteen stretches for each worker.
abbrev pub most_in_stretch : ℕ → ℕ → ℕ
most_in_stretch count workers = count / (16 * workers) + 1

-- The entries of a stretch. Stretches are counted from 0, and the last may be shorter than the others.
abbrev pub stretch : {X : Type 0} → ℕ → ℕ → List X → List X
stretch size k order = take size (drop (k * size) order)

-- The entries of some stretches, one stretch after another.
abbrev pub joined_stretches : {X : Type 0} → ℕ → List X → List ℕ → List X
joined_stretches size order [] = []
joined_stretches size order (k ∷ ks) = stretch size k order ++ joined_stretches size order ks

-- A table has for each node before an index of an order the stretch in which it stands.
pub record TellsStretches (count size : ℕ) (order : List ℕ) (index : ℕ) (table : List ℕ) : Type 0 where
  pub many : length table ≡ count
  pub tells : (k : ℕ) → k < index → slice_index table (slice_index order k) ≡ k / size

-- What is marked stays marked, and there are as many marks.
abbrev pub KeepsMarks : List Bool → List Bool → Type 0
KeepsMarks before after = (length after ≡ length before) × ((k : ℕ) → IsMarked before k → IsMarked after k)

-- By such a table the stretches of all predecessors of some nodes are marked.
abbrev pub MarksSources : List PlanEdge → List ℕ → List ℕ → List Bool → Type 0
MarksSources edges table nodes marks =
    AllByRecursion (λ n. AllByRecursion (λ m. IsMarked marks (slice_index table m)) (predecessors edges n)) nodes

-- To some edges those are added that lead to a stretch from each marked stretch below a limit.
pub record AddsEdges (marks : List Bool) (to limit : ℕ) (before after : List PlanEdge) : Type 0 where
  pub more : List PlanEdge
  pub is : after ≡ before ++ more
  pub rise : AllByRecursion (λ (e : PlanEdge). (e.from.0 < to) × (e.to.0 ≡ to)) more
  pub few : length more ≤ limit
  pub each : (k : ℕ) → k < limit → IsMarked marks k → Contains (sources more) k

-- An edge leads from a stretch to a later one, if it is later.
abbrev pub IsLinked : List PlanEdge → ℕ → ℕ → Type 0
IsLinked edges from to = from < to → Contains (predecessors edges to) from

-- The edges into the stretches below a limit: wherever the plan has an edge between their nodes, they have one.
pub record LinksStretches (plan : Plan) (size : ℕ) (order table : List ℕ) (limit : ℕ) (edges : List PlanEdge)
    : Type 0 where
  pub rise : AllByRecursion (λ (e : PlanEdge). (e.from.0 < e.to.0) × (e.to.0 < limit)) edges
  pub by_target : StandByTarget edges
  pub few : length edges ≤ limit * limit
  pub links : (k : ℕ) → k < length order → k / size < limit
      → AllByRecursion (λ m. IsLinked edges (slice_index table m) (k / size))
      (predecessors plan.edges (slice_index order k))

-- A plan whose nodes are the stretches of an order, with an edge between two stretches wherever the plan of the order
-- has one between their nodes.
pub record IsPlanOfStretches (plan : Plan) (size : ℕ) (order : List ℕ) (stretches : Plan) : Type 0 where
  pub whole : IsPlan stretches
  pub free : HasNoCycle stretches.edges
  pub enough : length order ≤ stretches.count * size
  pub table : List ℕ
  pub told : TellsStretches plan.count size order (length order) table
  pub linked : LinksStretches plan size order table stretches.count stretches.edges

-- After some nodes each of a list is ready, one after another.
abbrev pub AreReady : Plan → List ℕ → List ℕ → Type 0
AreReady plan before [] = Unit {0}
AreReady plan before (n ∷ ns) = IsReadyAfter plan before n × AreReady plan (before ++ n ∷ []) ns
