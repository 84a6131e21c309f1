-- What a worker's seat keeps between two nodes: whatever it claimed it has done. No public contract speaks of it.
use Rattle.std.specs.Prelude.{◌≡◌, ◌<◌, ◌≤◌, ◌+◌, ℕ, suc, List, length, map}
use Rattle.std.specs.declared.sync.Arc.{Arc}
use Rattle.std.specs.Arc.{arc_value}
use Rattle.pass_core.specs.declared.published.Published.{Published}
use Rattle.serial_pass.specs.Results.{NodeResult}
use Rattle.pass_core.specs.Shown.{published_result}
use Rattle.serial_pass.specs.declared.plan.PlanEdge.{PlanEdge}
use Rattle.ready_counters.specs.declared.view.View.{View}
use Rattle.ready_counters.specs.Views.{whole, times, tickets_for, with_claim}
use Rattle.ready_counters.specs.Edges.{edge_source, edge_target}

-- Each claimed node has its ticket, the edges into it are fetched, and those out of it filled and subtracted.
pub record IsSettled (edges : List PlanEdge) (v : View) : Type 0 where
  pub ticketed : (n : ℕ) → tickets_for n v.tickets ≡ times n v.claimed
  pub fetched : (e : ℕ) → e < length edges → times e v.fetched ≡ times (edge_target edges e) v.claimed
  pub filled : (e : ℕ) → e < length edges → times e v.filled ≡ times (edge_source edges e) v.claimed
  pub subtracted : (e : ℕ) → e < length edges → times e v.subtracted ≡ times (edge_source edges e) v.claimed

-- The same but for the fetched edges, of which those from one number to before another are fetched once more.
pub record IsGathering (begin e : ℕ) (old v : View) : Type 0 where
  pub weight : v.weight ≡ old.weight
  pub claimed : v.claimed ≡ old.claimed
  pub filled : v.filled ≡ old.filled
  pub subtracted : v.subtracted ≡ old.subtracted
  pub tickets : v.tickets ≡ old.tickets
  pub done : (x : ℕ) → begin ≤ x → x < e → times x v.fetched ≡ suc (times x old.fetched)
  pub before : (x : ℕ) → x < begin → times x v.fetched ≡ times x old.fetched
  pub rest : (x : ℕ) → e ≤ x → times x v.fetched ≡ times x old.fetched

-- The same but for the filled and subtracted edges, of which those listed are filled and subtracted once more.
pub record IsSpreading (done : List ℕ) (old v : View) : Type 0 where
  pub weight : v.weight ≡ old.weight
  pub claimed : v.claimed ≡ old.claimed
  pub fetched : v.fetched ≡ old.fetched
  pub tickets : v.tickets ≡ old.tickets
  pub filled : (x : ℕ) → times x v.filled ≡ times x done + times x old.filled
  pub subtracted : (x : ℕ) → times x v.subtracted ≡ times x done + times x old.subtracted

-- What some published results say.
abbrev pub outcomes : {O A : Type 0} → List (Arc (Published O) A) → List (NodeResult O)
outcomes xs = map (λ a. published_result (arc_value a)) xs

-- A settled seat has just claimed a node of which it had done nothing.
abbrev pub JustClaimed : List PlanEdge → ℕ → View → Type 0
JustClaimed edges n w = (v : View) × IsSettled edges v × (w ≡ with_claim v n) × (times n v.claimed ≡ 0)

-- Nothing claimed is lost; and the node is claimed now, if the seat is whole and had claimed all sources of the edges
-- into it.
abbrev pub Reaches : List PlanEdge → ℕ → View → View → Type 0
Reaches edges n v w = ((m : ℕ) → times m v.claimed ≤ times m w.claimed)
    × (v.weight ≡ whole → ((e : ℕ) → e < length edges → edge_target edges e ≡ n
    → 1 ≤ times (edge_source edges e) v.claimed)
    → 1 ≤ times n w.claimed)

-- None of the edges into a node is fetched.
abbrev pub HasNotFetched : List PlanEdge → ℕ → View → Type 0
HasNotFetched edges n v = (e : ℕ) → e < length edges → edge_target edges e ≡ n → times e v.fetched ≡ 0

-- None of the edges out of a node is filled or subtracted.
abbrev pub HasNotSpread : List PlanEdge → ℕ → View → Type 0
HasNotSpread edges n v =
    (e : ℕ) → e < length edges → edge_source edges e ≡ n → (times e v.filled ≡ 0) × (times e v.subtracted ≡ 0)
