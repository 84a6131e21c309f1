-- The core machine: the states of a pass whose nodes are visited in any order that the counters allow, and the four
-- steps that lead from one state to the next.
use Rattle.std.specs.Prelude.{◌≡◌, ◌<◌, ◌+◌, ◌-◌, ℕ, suc, Bool, true, false, List, [], ◌∷◌, length, map}
use Rattle.std.specs.Prelude.{replicate, slice_get, slice_index, slice_set, Option, Some, None}
use Rattle.std.specs.Prelude.{is_some, Result, ⊤}
use Rattle.std.specs.List.{AllByRecursion, range_with_len}
use Rattle.bp_faults.specs.declared.fault.Fault.{Fault}
use Rattle.serial_pass.specs.declared.plan.Plan.{Plan}
use Rattle.serial_pass.specs.declared.plan.PlanEdge.{PlanEdge}
use Rattle.pass_core.specs.declared.step.Step.{Step}
use Rattle.pass_core.specs.declared.step.Step.TheVariants.{Claim, Fetch, Fill, Subtract}
use Rattle.serial_pass.specs.Plans.{sources, predecessors}
use Rattle.serial_pass.specs.InEdges.{numbers_into}
use Rattle.serial_pass.specs.Results.{NodeResult, Poisoned, all_outs, judged_result}

-- A state of a pass: by node number its counter and whether it is claimed, and by edge number what the edge holds
-- where it is filled, and whether it is subtracted and fetched.
pub record CoreState (O : Type 0) : Type 0 where
  pub counters : List ℕ
  pub claimed : List Bool
  pub filled : List (Option (NodeResult O))
  pub subtracted : List Bool
  pub fetched : List Bool

-- The source of the edge of a number.
abbrev pub from_of : Plan → ℕ → ℕ
from_of plan e = slice_index (sources plan.edges) e

-- The target of the edge of a number.
abbrev pub to_of : Plan → ℕ → ℕ
to_of plan e = slice_index (map (λ (d : PlanEdge). d.to.0) plan.edges) e

-- What has that number is marked.
abbrev pub IsMarked : List Bool → ℕ → Type 0
IsMarked marks k = slice_get marks k ≡ Some true

-- What has that number is there and isn't marked.
abbrev pub IsUnmarked : List Bool → ℕ → Type 0
IsUnmarked marks k = slice_get marks k ≡ Some false

-- How many are marked.
abbrev pub marks : List Bool → ℕ
marks [] = 0
marks (true ∷ bs) = suc (marks bs)
marks (false ∷ bs) = marks bs

-- How many slots are filled.
abbrev pub filled_count : {X : Type 0} → List (Option X) → ℕ
filled_count xs = marks (map is_some xs)

module _ {O : Type 0} where
  -- The edge is filled.
  abbrev pub IsFilled : CoreState O → ℕ → Type 0
  IsFilled s e = (r : NodeResult O) × (slice_get s.filled e ≡ Some (Some r))

  -- The edge is there and isn't filled.
  abbrev pub IsUnfilled : CoreState O → ℕ → Type 0
  IsUnfilled s e = slice_get s.filled e ≡ Some None

  -- What stands in a slot, where nothing counts as poisoned.
  abbrev pub result_in : Option (Option (NodeResult O)) → NodeResult O
  result_in (Some (Some r)) = r
  result_in (Some None) = Poisoned
  result_in None = Poisoned

  -- What an edge holds.
  abbrev pub edge_result : CoreState O → ℕ → NodeResult O
  edge_result s e = result_in (slice_get s.filled e)

  -- The visit of a node was made where the node is claimed and all its in-edges are fetched.
  abbrev pub VisitWasMade : Plan → CoreState O → ℕ → Type 0
  VisitWasMade plan s n = IsMarked s.claimed n × AllByRecursion (IsMarked s.fetched) (numbers_into 0 plan.edges n)

  -- What the visit of a node makes of what its in-edges hold.
  abbrev pub visit_result : (ℕ → List O → Result O Fault) → Plan → CoreState O → ℕ → NodeResult O
  visit_result mean plan s n = judged_result (mean n) (all_outs (map (edge_result s) (numbers_into 0 plan.edges n)))

  -- Where a step is allowed.
  abbrev pub Allows : Plan → CoreState O → Step → Type 0
  Allows plan s (Claim n) = IsUnmarked s.claimed n.0 × (slice_get s.counters n.0 ≡ Some 0)
  Allows plan s (Fetch e) = IsMarked s.claimed (to_of plan e) × IsFilled s e × IsUnmarked s.fetched e
  Allows plan s (Fill e) = VisitWasMade plan s (from_of plan e) × IsUnfilled s e
  Allows plan s (Subtract e) = IsFilled s e × IsUnmarked s.subtracted e

  -- The state after a step that is allowed.
  abbrev pub after : (ℕ → List O → Result O Fault) → Plan → CoreState O → Step → CoreState O
  after mean plan s (Claim n) = record {
    counters = s.counters;
    claimed = slice_set s.claimed n.0 true;
    filled = s.filled;
    subtracted = s.subtracted;
    fetched = s.fetched;
  }
  after mean plan s (Fetch e) = record {
    counters = s.counters;
    claimed = s.claimed;
    filled = s.filled;
    subtracted = s.subtracted;
    fetched = slice_set s.fetched e true;
  }
  after mean plan s (Fill e) = record {
    counters = s.counters;
    claimed = s.claimed;
    filled = slice_set s.filled e (Some (visit_result mean plan s (from_of plan e)));
    subtracted = s.subtracted;
    fetched = s.fetched;
  }
  after mean plan s (Subtract e) = record {
    counters = slice_set s.counters (to_of plan e) (slice_index s.counters (to_of plan e) - 1);
    claimed = s.claimed;
    filled = s.filled;
    subtracted = slice_set s.subtracted e true;
    fetched = s.fetched;
  }

  -- Each counter begins at the number of in-edges, and nothing else is there.
  abbrev pub beginning : Plan → CoreState O
  beginning plan = record {
    counters = map (λ n. length (predecessors plan.edges n)) (range_with_len 0 plan.count);
    claimed = replicate plan.count false;
    filled = replicate (length plan.edges) None;
    subtracted = replicate (length plan.edges) false;
    fetched = replicate (length plan.edges) false;
  }

  -- A pass is finished where every visit was made, and every edge is filled, subtracted and fetched.
  pub record IsFinished (plan : Plan) (s : CoreState O) : Type 0 where
    pub visited : (n : ℕ) → n < plan.count → VisitWasMade plan s n
    pub filled : (e : ℕ) → e < length plan.edges → IsFilled s e
    pub subtracted : (e : ℕ) → e < length plan.edges → IsMarked s.subtracted e
    pub fetched : (e : ℕ) → e < length plan.edges → IsMarked s.fetched e

  -- The state after some steps, one after another.
  abbrev pub after_all : (ℕ → List O → Result O Fault) → Plan → CoreState O → List Step → CoreState O
  after_all mean plan s [] = s
  after_all mean plan s (t ∷ ts) = after_all mean plan (after mean plan s t) ts

  -- Each of some steps is allowed when its turn comes.
  abbrev pub AreAllowed : (ℕ → List O → Result O Fault) → Plan → CoreState O → List Step → Type 0
  AreAllowed mean plan s [] = ⊤
  AreAllowed mean plan s (t ∷ ts) = Allows plan s t × AreAllowed mean plan (after mean plan s t) ts

  -- A state is reached from the beginning by some steps, each of them allowed.
  pub record IsReached (mean : ℕ → List O
      → Result O Fault) (plan : Plan) (steps : List Step) (s : CoreState O) : Type 0 where
    pub allowed : AreAllowed mean plan (beginning plan) steps
    pub there : s ≡ after_all mean plan (beginning plan) steps

  -- A state is reached from the beginning by that many allowed steps.
  abbrev pub IsReachedIn : (ℕ → List O → Result O Fault) → Plan → ℕ → CoreState O → Type 0
  IsReachedIn mean plan many s = (steps : List Step) × IsReached mean plan steps s × (length steps ≡ many)

  -- How many entries a state has: claimed nodes, and filled, subtracted and fetched edges.
  abbrev pub entries : CoreState O → ℕ
  entries s = marks s.claimed + filled_count s.filled + marks s.subtracted + marks s.fetched
