use Rattle.std.proofs.Common.{◌≡◌, ◌+◌, ◌∙◌, ◌<◌, ◌≤◌, length, not, true, false, ap, sym, subst, arith, rules, refl}
use Rattle.std.specs.Prelude.{slice_index}
use Rattle.std.proofs.lemmas.List.{length-map}
use Rattle.serial_pass.specs.declared.plan.PlanEdge.{PlanEdge}
use Rattle.pass_core.specs.declared.step.Step.TheVariants.{Fetch}
use Rattle.pass_core.specs.CoreStates.{Allows, to_of, after}
use Rattle.pass_core.specs.CoreKept.{IsCore, state_of, shown_in}
use Rattle.std.proofs.Common.{get_or}
use Rattle.pass_core.specs.CoreStates.{IsMarked, visit_result}
use Rattle.pass_core.specs.CoreKept.{PublishesLast}
use Rattle.pass_core.proofs.CoreSteps.{fetch_core, fetch_some, steps_most}
use Rattle.pass_core.proofs.CoreTables.{filled_shows, mark_shows, to_is, count_is, lowered_is, publishes_as, test_zero}
use Rattle.pass_core.proofs.CoreTables.{zero_test}
use Rattle.pass_core.proofs.HeldPlaced.{starts_rise, starts_end, slice_judged, slice_many}
use Rattle.bp_faults.proofs.Lists.{same_at}
use Rattle.pass_core.proofs.Sound.{target_inside}
use Rattle.pass_core.proofs.machine.Core.fetch.Goals as goal

pub held_by-held-requires-clause-rises : goal.held_by-held-requires-clause-rises
held_by-held-requires-clause-rises g c =
    let kept = c.self.invariant in
    let f = c.self.inside in
    let d : PlanEdge = record { from = record { 0 = 0 }; to = record { 0 = 0 } } in
    let there : c.args.e < length f.fetched.items = let ok = f.fetched.ok in search rules in
    let inside : c.args.e < length f.plan.edges = subst (λ x. c.args.e < x) kept.sound.fetched_many there in
    let node = (get_or c.as_slice.result.now c.args.e d).to.0 in
    let to = to_is f.plan c.as_slice.result.now c.as_slice.ensures c.args.e d inside in
    let at = target_inside (g.V.Visit.meaning f.visitor) f.plan kept.is_plan kept.free c.args.e inside in
    let in_node : node < f.plan.count = subst (λ x. x < f.plan.count) to at in
    rw c.deref-2.ensures.value
    (starts_rise c.starts_of_edges_rise.ensures f.plan f.starts.items kept.is_plan kept.are_starts node in_node)

pub held_by-held-requires-clause-ends : goal.held_by-held-requires-clause-ends
held_by-held-requires-clause-ends g c =
    let kept = c.self.invariant in
    let f = c.self.inside in
    let d : PlanEdge = record { from = record { 0 = 0 }; to = record { 0 = 0 } } in
    let there : c.args.e < length f.fetched.items = let ok = f.fetched.ok in search rules in
    let inside : c.args.e < length f.plan.edges = subst (λ x. c.args.e < x) kept.sound.fetched_many there in
    let node = (get_or c.as_slice.result.now c.args.e d).to.0 in
    let to = to_is f.plan c.as_slice.result.now c.as_slice.ensures c.args.e d inside in
    let at = target_inside (g.V.Visit.meaning f.visitor) f.plan kept.is_plan kept.free c.args.e inside in
    let in_node : node < f.plan.count = subst (λ x. x < f.plan.count) to at in
    rw (c.deref-2.ensures.value, c.deref.ensures.value)
    (subst (λ x. slice_index f.starts.items (node + 1) ≤ x) (sym (sym (length-map f.filled.items shown_in)
    ∙ kept.sound.filled_many))
    (starts_end c.starts_of_edges_rise.ensures f.plan f.starts.items kept.is_plan kept.are_starts node in_node))

pub publish_last-requires-clause-takes : goal.publish_last-requires-clause-takes
publish_last-requires-clause-takes g c =
    let kept = c.self.invariant in
    let f = c.self.inside in
    let d : PlanEdge = record { from = record { 0 = 0 }; to = record { 0 = 0 } } in
    let there : c.args.e < length f.fetched.items = let ok = f.fetched.ok in search rules in
    let inside : c.args.e < length f.plan.edges = subst (λ x. c.args.e < x) kept.sound.fetched_many there in
    let node = (get_or c.as_slice.result.now c.args.e d).to.0 in
    let to = to_is f.plan c.as_slice.result.now c.as_slice.ensures c.args.e d inside in
    let at = target_inside (g.V.Visit.meaning f.visitor) f.plan kept.is_plan kept.free c.args.e inside in
    let in_node : node < f.plan.count = subst (λ x. x < f.plan.count) to at in
    let s = state_of f.counters.items f.claimed.items f.filled.items f.subtracted.items f.fetched.items in
    let many : length f.filled.items ≡ length f.plan.edges =
    sym (length-map f.filled.items shown_in) ∙ kept.sound.filled_many in
    let slice = rw (c.deref-2.ensures.value, c.deref.ensures.value) at c.held_by-held.ensures in
    subst (λ k. g.V.Visit.takes f.visitor node k)
    (slice_many c.starts_of_edges_rise.ensures f.plan f.starts.items kept.is_plan kept.are_starts node
    in_node c.edge_numbers_are_together.ensures f.filled.items many c.held_by-held.result.now slice)
    (kept.takes_plan node in_node)

pub invariant_of-self : goal.invariant_of-self
invariant_of-self g c =
    let f = c.self.inside in
    let s = state_of f.counters.items f.claimed.items f.filled.items f.subtracted.items f.fetched.items in
    subst (λ ps. IsCore (g.V.Visit.meaning f.visitor) (g.V.Visit.takes f.visitor) f.plan f.starts.items s
    f.unfetched.items ps f.steps) (sym c.in_err-publish_last.ensures.unchanged) c.self.invariant

pub overflow_sub-index_mut : goal.overflow_sub-index_mut
overflow_sub-index_mut g c =
    let kept = c.self.invariant in
    let f = c.self.inside in
    let d : PlanEdge = record { from = record { 0 = 0 }; to = record { 0 = 0 } } in
    let there : c.args.e < length f.fetched.items = let ok = f.fetched.ok in search rules in
    let inside : c.args.e < length f.plan.edges = subst (λ x. c.args.e < x) kept.sound.fetched_many there in
    let node = (get_or c.as_slice.result.now c.args.e d).to.0 in
    let to = to_is f.plan c.as_slice.result.now c.as_slice.ensures c.args.e d inside in
    let at = target_inside (g.V.Visit.meaning f.visitor) f.plan kept.is_plan kept.free c.args.e inside in
    let in_node : node < f.plan.count = subst (λ x. x < f.plan.count) to at in
    let s = state_of f.counters.items f.claimed.items f.filled.items f.subtracted.items f.fetched.items in
    let many : length f.filled.items ≡ length f.plan.edges =
    sym (length-map f.filled.items shown_in) ∙ kept.sound.filled_many in
    let may : Allows f.plan s (Fetch c.args.e) = (
      subst (λ x. IsMarked f.claimed.items x) (sym to) (mark_shows f.claimed.items node c.index-2.result.now true
          (subst (λ x. node < x) (sym kept.sound.claimed_many) in_node) c.index-2.ensures c.if-not-index.false),
      filled_shows f.filled.items c.args.e c.index.result.now
          (subst (λ x. c.args.e < x) (sym many) inside) c.index.ensures (c.is_none.ensures ∙ ap not c.if-is_none.false),
      mark_shows f.fetched.items c.args.e c.index-else-is_none.result.now false there c.index-else-is_none.ensures
          c.if-index.false,
    ) in
    let ready : to_of f.plan c.args.e < length f.unfetched.items =
    subst (λ x. to_of f.plan c.args.e < x) (sym kept.unfetched_many) at in
    let some = fetch_some (g.V.Visit.meaning f.visitor)
    (g.V.Visit.takes f.visitor) f.plan f.starts.items s f.unfetched.items f.published.items f.steps kept
    c.results_meet_their_equation.ensures c.args.e may in
    let is = count_is f.plan c.as_slice.result.now c.as_slice.ensures c.args.e d inside f.unfetched.items
    c.index_mut.result.now ready c.index_mut.ensures.value in
    omega arith

pub overflow_add-self : goal.overflow_add-self
overflow_add-self g c =
    let most = steps_most _ _ _ _ _ _ _ _ c.self.invariant in let few = c.self.invariant.is_plan.few in search rules

pub invariant_of-self-2 : goal.invariant_of-self-2
invariant_of-self-2 g c =
    let kept = c.self.invariant in
    let f = c.self.inside in
    let d : PlanEdge = record { from = record { 0 = 0 }; to = record { 0 = 0 } } in
    let there : c.args.e < length f.fetched.items = let ok = f.fetched.ok in search rules in
    let inside : c.args.e < length f.plan.edges = subst (λ x. c.args.e < x) kept.sound.fetched_many there in
    let node = (get_or c.as_slice.result.now c.args.e d).to.0 in
    let to = to_is f.plan c.as_slice.result.now c.as_slice.ensures c.args.e d inside in
    let at = target_inside (g.V.Visit.meaning f.visitor) f.plan kept.is_plan kept.free c.args.e inside in
    let in_node : node < f.plan.count = subst (λ x. x < f.plan.count) to at in
    let s = state_of f.counters.items f.claimed.items f.filled.items f.subtracted.items f.fetched.items in
    let many : length f.filled.items ≡ length f.plan.edges =
    sym (length-map f.filled.items shown_in) ∙ kept.sound.filled_many in
    let slice = rw (c.deref-2.ensures.value, c.deref.ensures.value) at c.held_by-held.ensures in
    let may : Allows f.plan s (Fetch c.args.e) = (
      subst (λ x. IsMarked f.claimed.items x) (sym to) (mark_shows f.claimed.items node c.index-2.result.now true
          (subst (λ x. node < x) (sym kept.sound.claimed_many) in_node) c.index-2.ensures c.if-not-index.false),
      filled_shows f.filled.items c.args.e c.index.result.now
          (subst (λ x. c.args.e < x) (sym many) inside) c.index.ensures (c.is_none.ensures ∙ ap not c.if-is_none.false),
      mark_shows f.fetched.items c.args.e c.index-else-is_none.result.now false there c.index-else-is_none.ensures
          c.if-index.false,
    ) in
    let ready : to_of f.plan c.args.e < length f.unfetched.items =
    subst (λ x. to_of f.plan c.args.e < x) (sym kept.unfetched_many) at in
    let lowered = lowered_is f.plan c.as_slice.result.now c.as_slice.ensures c.args.e d inside f.unfetched.items
    c.index_mut.result.now ready c.index_mut.ensures.value in
    let counted : c.index-3.result.now ≡ slice_index f.unfetched.items node =
    c.index-3.ensures
    ∙ same_at f.unfetched.items node c.index-3.result.now 0 (subst (λ x. node < x) (sym kept.unfetched_many) in_node) in
    let published : PublishesLast (slice_index f.unfetched.items node ≡ 1) node
    (visit_result (g.V.Visit.meaning f.visitor) f.plan s node) f.published.items c.publish_last.new.published.items =
    publishes_as node _
    (visit_result (g.V.Visit.meaning f.visitor) f.plan s node) f.published.items c.publish_last.new.published.items
    (test_zero c.index-3.result.now (slice_index f.unfetched.items node) 1 counted) (zero_test c.index-3.result.now
    (slice_index f.unfetched.items node) 1 counted)
    (slice_judged c.starts_of_edges_rise.ensures f.plan f.starts.items kept.is_plan kept.are_starts node in_node
    c.edge_numbers_are_together.ensures f.filled.items many
    c.held_by-held.result.now slice (g.V.Visit.meaning f.visitor node)) c.in_ok-publish_last.ensures.done in
    subst (λ us. IsCore (g.V.Visit.meaning f.visitor) (g.V.Visit.takes f.visitor) f.plan f.starts.items
    (after (g.V.Visit.meaning f.visitor) f.plan s (Fetch c.args.e)) us c.publish_last.new.published.items (f.steps + 1))
    (sym lowered)
    (fetch_core (g.V.Visit.meaning f.visitor) (g.V.Visit.takes f.visitor) f.plan f.starts.items s f.unfetched.items
    f.published.items f.steps kept c.results_meet_their_equation.ensures c.args.e may c.publish_last.new.published.items
    (subst (λ x. PublishesLast (slice_index f.unfetched.items x ≡ 1) x (visit_result (g.V.Visit.meaning f.visitor)
    f.plan s x) f.published.items c.publish_last.new.published.items) (sym to) published))

pub returns : goal.returns
returns g c =
    let kept = c.self.invariant in
    let f = c.self.inside in
    let d : PlanEdge = record { from = record { 0 = 0 }; to = record { 0 = 0 } } in
    let there : c.args.e < length f.fetched.items = let ok = f.fetched.ok in search rules in
    let inside : c.args.e < length f.plan.edges = subst (λ x. c.args.e < x) kept.sound.fetched_many there in
    let node = (get_or c.as_slice.result.now c.args.e d).to.0 in
    let to = to_is f.plan c.as_slice.result.now c.as_slice.ensures c.args.e d inside in
    let at = target_inside (g.V.Visit.meaning f.visitor) f.plan kept.is_plan kept.free c.args.e inside in
    let in_node : node < f.plan.count = subst (λ x. x < f.plan.count) to at in
    let s = state_of f.counters.items f.claimed.items f.filled.items f.subtracted.items f.fetched.items in
    let many : length f.filled.items ≡ length f.plan.edges =
    sym (length-map f.filled.items shown_in) ∙ kept.sound.filled_many in
    let may : Allows f.plan s (Fetch c.args.e) = (
      subst (λ x. IsMarked f.claimed.items x) (sym to) (mark_shows f.claimed.items node c.index-2.result.now true
          (subst (λ x. node < x) (sym kept.sound.claimed_many) in_node) c.index-2.ensures c.if-not-index.false),
      filled_shows f.filled.items c.args.e c.index.result.now
          (subst (λ x. c.args.e < x) (sym many) inside) c.index.ensures (c.is_none.ensures ∙ ap not c.if-is_none.false),
      mark_shows f.fetched.items c.args.e c.index-else-is_none.result.now false there c.index-else-is_none.ensures
          c.if-index.false,
    ) in
    rw (← c.self.view_is) (may, refl)
