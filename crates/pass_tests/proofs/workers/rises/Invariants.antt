use Rattle.std.proofs.Common.{◌<◌, ◌≤◌, ℕ, List, take}
use Rattle.std.specs.List.{AllByRecursion}
use Rattle.serial_pass.specs.declared.plan.PlanEdge.{PlanEdge}
use Rattle.serial_pass.specs.Plans.{HaveEndsBelow, StandByTarget}
use Rattle.pass_tests.proofs.workers.rises.Given as goal

pub record Rises (count target : ℕ) (es : List PlanEdge) : Type 0 where
  pub ends : HaveEndsBelow count es
  pub by_target : StandByTarget es
  pub least : AllByRecursion (λ (e : PlanEdge). e.to.0 ≤ target) es
  pub rising : AllByRecursion (λ (e : PlanEdge). e.from.0 < e.to.0) es

abbrev pub invariant-loop-edge : goal.invariant-loop-edge
invariant-loop-edge l = Rises l.plan.count l.target (take l.edge-index l.edge-items)
