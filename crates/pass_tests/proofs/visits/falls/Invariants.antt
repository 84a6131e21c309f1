use Rattle.std.proofs.Common.{◌<◌, ◌≤◌, ℕ, List, take}
use Rattle.std.specs.List.{AllByRecursion}
use Rattle.serial_pass.specs.declared.plan.PlanEdge.{PlanEdge}
use Rattle.serial_pass.specs.Plans.{HaveEndsBelow, StandByTarget}
use Rattle.pass_tests.proofs.visits.falls.Given as goal

pub record Falls (count target : ℕ) (es : List PlanEdge) : Type 0 where
  pub ends : HaveEndsBelow count es
  pub by_target : StandByTarget es
  pub least : AllByRecursion (λ (e : PlanEdge). e.to.0 ≤ target) es
  pub falling : AllByRecursion (λ (e : PlanEdge). (e.to.0 < e.from.0) × (e.from.0 < count)) es

abbrev pub invariant-loop-edge : goal.invariant-loop-edge
invariant-loop-edge l = Falls l.plan.count l.target (take l.edge-index l.edge-items)
