use Rattle.std.proofs.Common.{◌≡◌, ◌+◌, ◌∙◌, ◌<◌, ◌≤◌, length, false, ap, sym, subst, arith, rules, refl, Some}
use Rattle.std.specs.Prelude.{slice_index}
use Rattle.std.proofs.lemmas.List.{length-map}
use Rattle.pass_core.specs.declared.step.Step.TheVariants.{Claim}
use Rattle.pass_core.specs.CoreStates.{Allows}
use Rattle.pass_core.specs.CoreKept.{state_of, shown_in}
use Rattle.std.proofs.lemmas.Option.{slice_get_read}
use Rattle.pass_core.specs.CoreStates.{visit_result}
use Rattle.pass_core.proofs.CoreSteps.{claim_core, steps_most}
use Rattle.pass_core.proofs.CoreTables.{mark_shows, publishes_as, test_zero, zero_test}
use Rattle.pass_core.proofs.HeldPlaced.{starts_rise, starts_end, slice_judged, slice_many}
use Rattle.bp_faults.proofs.Lists.{same_at}
use Rattle.pass_core.proofs.machine.Core.claim.Goals as goal

pub held_by-held-requires-clause-rises : goal.held_by-held-requires-clause-rises
held_by-held-requires-clause-rises g c =
    let kept = c.self.invariant in
    let f = c.self.inside in
    let inside : c.args.n.0 < f.plan.count = omega arith in
    rw c.deref-2.ensures.value
    (starts_rise c.starts_of_edges_rise.ensures f.plan f.starts.items kept.is_plan kept.are_starts c.args.n.0 inside)

pub held_by-held-requires-clause-ends : goal.held_by-held-requires-clause-ends
held_by-held-requires-clause-ends g c =
    let kept = c.self.invariant in
    let f = c.self.inside in
    let inside : c.args.n.0 < f.plan.count = omega arith in
    rw (c.deref-2.ensures.value, c.deref.ensures.value)
    (subst (λ x. slice_index f.starts.items (c.args.n.0 + 1) ≤ x) (sym (sym (length-map f.filled.items shown_in)
    ∙ kept.sound.filled_many))
    (starts_end c.starts_of_edges_rise.ensures f.plan f.starts.items kept.is_plan kept.are_starts c.args.n.0 inside))

pub publish_last-requires-clause-takes : goal.publish_last-requires-clause-takes
publish_last-requires-clause-takes g c =
    let kept = c.self.invariant in
    let f = c.self.inside in
    let inside : c.args.n.0 < f.plan.count = omega arith in
    let s = state_of f.counters.items f.claimed.items f.filled.items f.subtracted.items f.fetched.items in
    let many : length f.filled.items ≡ length f.plan.edges =
    sym (length-map f.filled.items shown_in) ∙ kept.sound.filled_many in
    let slice = rw (c.deref-2.ensures.value, c.deref.ensures.value) at c.held_by-held.ensures in
    subst (λ k. g.V.Visit.takes f.visitor c.args.n.0 k)
    (slice_many c.starts_of_edges_rise.ensures f.plan f.starts.items kept.is_plan kept.are_starts
    c.args.n.0 inside c.edge_numbers_are_together.ensures f.filled.items many c.held_by-held.result.now slice)
    (kept.takes_plan c.args.n.0 inside)

pub overflow_add-self : goal.overflow_add-self
overflow_add-self g c =
    let most = steps_most _ _ _ _ _ _ _ _ c.self.invariant in let few = c.self.invariant.is_plan.few in search rules

pub invariant_of-self-2 : goal.invariant_of-self-2
invariant_of-self-2 g c =
    let kept = c.self.invariant in
    let f = c.self.inside in
    let inside : c.args.n.0 < f.plan.count = omega arith in
    let s = state_of f.counters.items f.claimed.items f.filled.items f.subtracted.items f.fetched.items in
    let many : length f.filled.items ≡ length f.plan.edges =
    sym (length-map f.filled.items shown_in) ∙ kept.sound.filled_many in
    let slice = rw (c.deref-2.ensures.value, c.deref.ensures.value) at c.held_by-held.ensures in
    let may : Allows f.plan s (Claim c.args.n) = (
      mark_shows f.claimed.items c.args.n.0 c.index.result.now false
          (subst (λ x. c.args.n.0 < x) (sym kept.sound.claimed_many) inside) c.index.ensures c.if-index.false,
      slice_get_read f.counters.items (length f.counters.items) c.args.n.0 c.index-else-index.result.now refl
          (subst (λ x. c.args.n.0 < x) (sym kept.sound.counters_many) inside) c.index-else-index.ensures
          ∙ ap Some c.if-index-ne0.false,
    ) in
    let counted : c.index-2.result.now ≡ slice_index f.unfetched.items c.args.n.0 =
    c.index-2.ensures
    ∙ same_at f.unfetched.items c.args.n.0 c.index-2.result.now 0
    (subst (λ x. c.args.n.0 < x) (sym kept.unfetched_many) inside) in
    claim_core (g.V.Visit.meaning f.visitor) (g.V.Visit.takes f.visitor) f.plan f.starts.items s f.unfetched.items
    f.published.items f.steps kept c.results_meet_their_equation.ensures c.args.n may inside
    c.publish_last.new.published.items
    (publishes_as c.args.n.0 _ (visit_result (g.V.Visit.meaning f.visitor) f.plan s c.args.n.0) f.published.items
    c.publish_last.new.published.items
    (test_zero c.index-2.result.now (slice_index f.unfetched.items c.args.n.0) 0 counted)
    (zero_test c.index-2.result.now (slice_index f.unfetched.items c.args.n.0) 0 counted)
    (slice_judged c.starts_of_edges_rise.ensures f.plan f.starts.items kept.is_plan kept.are_starts c.args.n.0 inside
    c.edge_numbers_are_together.ensures f.filled.items many
    c.held_by-held.result.now slice (g.V.Visit.meaning f.visitor c.args.n.0)) c.in_ok-publish_last.ensures.done)

pub returns : goal.returns
returns g c =
    let kept = c.self.invariant in
    let f = c.self.inside in
    let inside : c.args.n.0 < f.plan.count = omega arith in
    let s = state_of f.counters.items f.claimed.items f.filled.items f.subtracted.items f.fetched.items in
    let may : Allows f.plan s (Claim c.args.n) = (
      mark_shows f.claimed.items c.args.n.0 c.index.result.now false
          (subst (λ x. c.args.n.0 < x) (sym kept.sound.claimed_many) inside) c.index.ensures c.if-index.false,
      slice_get_read f.counters.items (length f.counters.items) c.args.n.0 c.index-else-index.result.now refl
          (subst (λ x. c.args.n.0 < x) (sym kept.sound.counters_many) inside) c.index-else-index.ensures
          ∙ ap Some c.if-index-ne0.false,
    ) in
    rw (← c.self.view_is) (may, refl)
