use Rattle.std.proofs.Common.{◌+◌, ◌∙◌, ◌<◌, length, not, true, false, ap, sym, subst, arith, rules}
use Rattle.std.specs.Prelude.{slice_set}
use Rattle.std.proofs.lemmas.List.{length-map}
use Rattle.serial_pass.specs.declared.plan.PlanEdge.{PlanEdge}
use Rattle.pass_core.specs.declared.step.Step.TheVariants.{Subtract}
use Rattle.pass_core.specs.CoreStates.{Allows, to_of}
use Rattle.pass_core.specs.CoreKept.{IsCore, state_of, shown_in}
use Rattle.pass_core.proofs.CoreSteps.{subtract_core, subtract_some, steps_most}
use Rattle.pass_core.proofs.CoreTables.{seen, filled_shows, mark_shows, count_is, lowered_is}
use Rattle.pass_core.proofs.Sound.{target_inside}
use Rattle.pass_core.proofs.machine.Core.subtract.Goals as goal

pub overflow_sub-index_mut : goal.overflow_sub-index_mut
overflow_sub-index_mut g c =
    let kept = c.self.invariant in
    let f = c.self.inside in
    let d : PlanEdge = record { from = record { 0 = 0 }; to = record { 0 = 0 } } in
    let s = state_of f.counters.items f.claimed.items f.filled.items f.subtracted.items f.fetched.items in
    let there : c.args.e < length f.filled.items = let ok = f.filled.ok in search rules in
    let inside : c.args.e < length f.plan.edges =
    subst (λ x. c.args.e < x) (sym (length-map f.filled.items shown_in) ∙ kept.sound.filled_many) there in
    let may : Allows f.plan s (Subtract c.args.e) = (
      filled_shows f.filled.items c.args.e c.index.result.now there c.index.ensures
          (c.is_none.ensures ∙ ap not c.if-is_none.false),
      mark_shows f.subtracted.items c.args.e c.index-else-is_none.result.now false
          (subst (λ x. c.args.e < x) (sym kept.sound.subtracted_many) inside) c.index-else-is_none.ensures
          c.if-index.false,
    ) in
    let at : to_of f.plan c.args.e < length f.counters.items =
    subst (λ x. to_of f.plan c.args.e < x) (sym kept.sound.counters_many)
    (target_inside (g.V.Visit.meaning f.visitor) f.plan kept.is_plan kept.free c.args.e inside) in
    let some = subtract_some (g.V.Visit.meaning f.visitor)
    (g.V.Visit.takes f.visitor) f.plan f.starts.items s f.unfetched.items f.published.items f.steps kept
    c.results_meet_their_equation.ensures c.args.e may in
    let is = count_is f.plan c.as_slice.result.now c.as_slice.ensures c.args.e d inside f.counters.items
    c.index_mut.result.now at c.index_mut.ensures.value in
    omega arith

pub overflow_add-self : goal.overflow_add-self
overflow_add-self g c =
    let most = steps_most _ _ _ _ _ _ _ _ c.self.invariant in let few = c.self.invariant.is_plan.few in search rules

pub invariant_of-self : goal.invariant_of-self
invariant_of-self g c =
    let kept = c.self.invariant in
    let f = c.self.inside in
    let d : PlanEdge = record { from = record { 0 = 0 }; to = record { 0 = 0 } } in
    let s = state_of f.counters.items f.claimed.items f.filled.items f.subtracted.items f.fetched.items in
    let there : c.args.e < length f.filled.items = let ok = f.filled.ok in search rules in
    let inside : c.args.e < length f.plan.edges =
    subst (λ x. c.args.e < x) (sym (length-map f.filled.items shown_in) ∙ kept.sound.filled_many) there in
    let may : Allows f.plan s (Subtract c.args.e) = (
      filled_shows f.filled.items c.args.e c.index.result.now there c.index.ensures
          (c.is_none.ensures ∙ ap not c.if-is_none.false),
      mark_shows f.subtracted.items c.args.e c.index-else-is_none.result.now false
          (subst (λ x. c.args.e < x) (sym kept.sound.subtracted_many) inside) c.index-else-is_none.ensures
          c.if-index.false,
    ) in
    let at : to_of f.plan c.args.e < length f.counters.items =
    subst (λ x. to_of f.plan c.args.e < x) (sym kept.sound.counters_many)
    (target_inside (g.V.Visit.meaning f.visitor) f.plan kept.is_plan kept.free c.args.e inside) in
    let lowered = lowered_is f.plan c.as_slice.result.now c.as_slice.ensures c.args.e d inside f.counters.items
    c.index_mut.result.now at c.index_mut.ensures.value in
    subst (λ cs. IsCore (g.V.Visit.meaning f.visitor) (g.V.Visit.takes f.visitor) f.plan f.starts.items
    (state_of cs f.claimed.items f.filled.items (slice_set f.subtracted.items c.args.e true) f.fetched.items)
    f.unfetched.items f.published.items (f.steps + 1))
    (sym lowered) (subtract_core (g.V.Visit.meaning f.visitor)
    (g.V.Visit.takes f.visitor) f.plan f.starts.items s f.unfetched.items f.published.items f.steps kept
    c.results_meet_their_equation.ensures c.args.e may)

pub returns : goal.returns
returns g c =
    let kept = c.self.invariant in
    let f = c.self.inside in
    let d : PlanEdge = record { from = record { 0 = 0 }; to = record { 0 = 0 } } in
    let s = state_of f.counters.items f.claimed.items f.filled.items f.subtracted.items f.fetched.items in
    let there : c.args.e < length f.filled.items = let ok = f.filled.ok in search rules in
    let inside : c.args.e < length f.plan.edges =
    subst (λ x. c.args.e < x) (sym (length-map f.filled.items shown_in) ∙ kept.sound.filled_many) there in
    let may : Allows f.plan s (Subtract c.args.e) = (
      filled_shows f.filled.items c.args.e c.index.result.now there c.index.ensures
          (c.is_none.ensures ∙ ap not c.if-is_none.false),
      mark_shows f.subtracted.items c.args.e c.index-else-is_none.result.now false
          (subst (λ x. c.args.e < x) (sym kept.sound.subtracted_many) inside) c.index-else-is_none.ensures
          c.if-index.false,
    ) in
    let at : to_of f.plan c.args.e < length f.counters.items =
    subst (λ x. to_of f.plan c.args.e < x) (sym kept.sound.counters_many)
    (target_inside (g.V.Visit.meaning f.visitor) f.plan kept.is_plan kept.free c.args.e inside) in
    let lowered = lowered_is f.plan c.as_slice.result.now c.as_slice.ensures c.args.e d inside f.counters.items
    c.index_mut.result.now at c.index_mut.ensures.value in
    rw (← c.self.view_is) (
      may,
      ap (λ cs. seen f.plan f.visitor (state_of cs f.claimed.items f.filled.items
          (slice_set f.subtracted.items c.args.e true) f.fetched.items)) lowered,
    )
