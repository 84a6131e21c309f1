use Rattle.std.proofs.Common.{◌≡◌, ◌<◌, ◌≤◌, ◌++◌, ◌∙◌, ℕ, List, [], ◌∷◌, length, take, ap, subst, arith}
use Rattle.std.specs.List.{AllByRecursion}
use Rattle.std.proofs.Math.Seq.{take-length}
use Rattle.std.proofs.lemmas.List.{take_more}
use Rattle.serial_pass.specs.declared.plan.PlanEdge.{PlanEdge}
use Rattle.serial_pass.specs.Plans.{StandByTarget, HasNoCycle}
use Rattle.pass_tests.proofs.workers.rises.Invariants.{Rises}
use Rattle.bp_faults.proofs.Lists.{all_map, all_pushed}
use Rattle.pass_tests.proofs.workers.rises.Goals as goal

by_target_pushed : (es : List PlanEdge) (e : PlanEdge) → StandByTarget es
    → AllByRecursion (λ (x : PlanEdge). x.to.0 ≤ e.to.0) es → StandByTarget (es ++ e ∷ [])
by_target_pushed [] e by least = (tt, tt)
by_target_pushed (x ∷ xs) e by least =
    (all_pushed (λ (later : PlanEdge). x.to.0 ≤ later.to.0) xs e by.0 least.0, by_target_pushed xs e by.1 least.1)

rises_more : (count target : ℕ) (es : List PlanEdge) (e : PlanEdge) → Rises count target es → target ≤ e.to.0
    → e.from.0 < e.to.0 → e.to.0 < count → Rises count e.to.0 (es ++ e ∷ [])
rises_more count target es e h le lt inside =
    let least : AllByRecursion (λ (x : PlanEdge). x.to.0 ≤ e.to.0) es =
    all_map (λ (x : PlanEdge). x.to.0 ≤ target) (λ (x : PlanEdge). x.to.0 ≤ e.to.0)
    (λ x below. omega arith) es h.least in
    record {
      ends = all_pushed (λ (x : PlanEdge). (x.from.0 < count) × (x.to.0 < count)) es e h.ends (omega arith, inside);
      by_target = by_target_pushed es e h.by_target least;
      least = all_pushed (λ (x : PlanEdge). x.to.0 ≤ e.to.0) es e least (omega arith);
      rising = all_pushed (λ (x : PlanEdge). x.from.0 < x.to.0) es e h.rising lt;
    }

free_of_cycles : (count target : ℕ) (es : List PlanEdge) → Rises count target es → HasNoCycle es
free_of_cycles count target es h = record { rank = λ n. n; rises = h.rising }

pub loop-edge-preserved : goal.loop-edge-preserved
loop-edge-preserved c =
    rw (take_more c.as_slice-edge-items.result.now c.loop-edge.edge-index
    (record { from = record { 0 = 0 }; to = record { 0 = 0 } }) c.loop-edge-test.true)
    (rises_more c.args.plan.now.count c.loop-edge.target
    (take c.loop-edge.edge-index c.as_slice-edge-items.result.now) _ c.loop-edge.invariant c.if-edge-target.false
    c.if-edge.false c.if-edge-plan.false)

pub returns-clause-free : goal.returns-clause-free
returns-clause-free c few =
    let whole : c.loop-edge.edge-index ≡ length c.as_slice-edge-items.result.now = omega arith in
    subst (λ es. HasNoCycle es)
    (ap (λ i. take i c.as_slice-edge-items.result.now) whole ∙ take-length c.as_slice-edge-items.result.now
    ∙ c.as_slice-edge-items.ensures)
    (free_of_cycles c.args.plan.now.count c.loop-edge.target
    (take c.loop-edge.edge-index c.as_slice-edge-items.result.now) c.loop-edge.invariant)
