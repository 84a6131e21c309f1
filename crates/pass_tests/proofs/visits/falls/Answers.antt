use Rattle.std.proofs.Common.{◌≡◌, ◌<◌, ◌≤◌, ◌-◌, ◌++◌, ◌∙◌, ℕ, List, [], ◌∷◌, length, take, ap, subst, arith}
use Rattle.std.specs.List.{AllByRecursion}
use Rattle.std.proofs.Math.Seq.{take-length}
use Rattle.std.proofs.lemmas.List.{take_more}
use Rattle.serial_pass.specs.declared.plan.PlanEdge.{PlanEdge}
use Rattle.serial_pass.specs.Plans.{StandByTarget, HasNoCycle}
use Rattle.pass_tests.proofs.visits.falls.Invariants.{Falls}
use Rattle.bp_faults.proofs.Lists.{all_map, all_pushed}
use Rattle.pass_tests.proofs.visits.falls.Goals as goal

by_target_pushed : (es : List PlanEdge) (e : PlanEdge) → StandByTarget es
    → AllByRecursion (λ (x : PlanEdge). x.to.0 ≤ e.to.0) es → StandByTarget (es ++ e ∷ [])
by_target_pushed [] e by least = (tt, tt)
by_target_pushed (x ∷ xs) e by least =
    (all_pushed (λ (later : PlanEdge). x.to.0 ≤ later.to.0) xs e by.0 least.0, by_target_pushed xs e by.1 least.1)

falls_more : (count target : ℕ) (es : List PlanEdge) (e : PlanEdge) → Falls count target es → target ≤ e.to.0
    → e.to.0 < e.from.0 → e.from.0 < count → Falls count e.to.0 (es ++ e ∷ [])
falls_more count target es e falls le lt inside =
    let least : AllByRecursion (λ (x : PlanEdge). x.to.0 ≤ e.to.0) es = all_map (λ (x : PlanEdge). x.to.0 ≤ target)
    (λ (x : PlanEdge). x.to.0 ≤ e.to.0) (λ x h. omega arith) es falls.least in
    record {
      ends = all_pushed (λ (x : PlanEdge). (x.from.0 < count) × (x.to.0 < count)) es e falls.ends (inside, omega arith);
      by_target = by_target_pushed es e falls.by_target least;
      least = all_pushed (λ (x : PlanEdge). x.to.0 ≤ e.to.0) es e least (omega arith);
      falling = all_pushed (λ (x : PlanEdge). (x.to.0 < x.from.0) × (x.from.0 < count)) es e falls.falling (lt, inside);
    }

free_of_cycles : (count target : ℕ) (es : List PlanEdge) → Falls count target es → HasNoCycle es
free_of_cycles count target es falls = record {
  rank = λ n. count - n;
  rises =
      all_map (λ (x : PlanEdge). (x.to.0 < x.from.0) × (x.from.0 < count)) (λ (x : PlanEdge). count - x.from.0
      < count - x.to.0) (λ x h. let a = h.0 in let b = h.1 in omega arith) es falls.falling;
}

pub loop-edge-preserved : goal.loop-edge-preserved
loop-edge-preserved c =
    rw (take_more c.as_slice-edge-items.result.now c.loop-edge.edge-index
    (record { from = record { 0 = 0 }; to = record { 0 = 0 } }) c.loop-edge-test.true)
    (falls_more c.args.plan.now.count c.loop-edge.target (take c.loop-edge.edge-index c.as_slice-edge-items.result.now)
    _ c.loop-edge.invariant c.if-edge-target.false c.if-edge.false c.if-edge-plan.false)

pub returns-clause-free : goal.returns-clause-free
returns-clause-free c few =
    let whole : c.loop-edge.edge-index ≡ length c.as_slice-edge-items.result.now = omega arith in
    subst (λ es. HasNoCycle es) (ap (λ i. take i c.as_slice-edge-items.result.now) whole
    ∙ take-length c.as_slice-edge-items.result.now ∙ c.as_slice-edge-items.ensures)
    (free_of_cycles c.args.plan.now.count c.loop-edge.target
    (take c.loop-edge.edge-index c.as_slice-edge-items.result.now) c.loop-edge.invariant)
