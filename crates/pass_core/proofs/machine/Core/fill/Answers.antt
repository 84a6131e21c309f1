use Rattle.std.proofs.Common.{◌≡◌, ◌+◌, ◌∙◌, ◌<◌, length, ap, sym, subst, rules, refl, Some, None}
use Rattle.std.specs.Prelude.{slice_get}
use Rattle.std.proofs.lemmas.List.{length-map}
use Rattle.serial_pass.specs.declared.plan.PlanEdge.{PlanEdge}
use Rattle.pass_core.specs.declared.step.Step.TheVariants.{Fill}
use Rattle.pass_core.specs.CoreStates.{Allows, from_of}
use Rattle.pass_core.specs.CoreKept.{IsCore, state_of, shown_in}
use Rattle.std.proofs.lemmas.Option.{slice_get_read}
use Rattle.pass_core.proofs.CoreSteps.{fill_core, filled_is, steps_most}
use Rattle.pass_core.proofs.CoreTables.{seen, unfilled_shows, from_is}
use Rattle.pass_core.proofs.Sound.{source_inside}
use Rattle.pass_core.proofs.machine.Core.fill.Goals as goal

pub overflow_add-self : goal.overflow_add-self
overflow_add-self g c =
    let most = steps_most _ _ _ _ _ _ _ _ c.self.invariant in let few = c.self.invariant.is_plan.few in search rules

pub invariant_of-self : goal.invariant_of-self
invariant_of-self g c =
    let kept = c.self.invariant in
    let f = c.self.inside in
    let d : PlanEdge = record { from = record { 0 = 0 }; to = record { 0 = 0 } } in
    let s = state_of f.counters.items f.claimed.items f.filled.items f.subtracted.items f.fetched.items in
    let there : c.args.e < length f.filled.items = let ok = f.filled.ok in search rules in
    let inside : c.args.e < length f.plan.edges =
    subst (λ x. c.args.e < x) (sym (length-map f.filled.items shown_in) ∙ kept.sound.filled_many) there in
    let from = from_is f.plan c.as_slice.result.now c.as_slice.ensures c.args.e d inside in
    let source : from_of f.plan c.args.e < length f.published.items =
    subst (λ x. from_of f.plan c.args.e < x) (sym kept.published_many)
    (source_inside (g.V.Visit.meaning f.visitor) f.plan kept.is_plan kept.free c.args.e inside) in
    let read : slice_get f.published.items (from_of f.plan c.args.e) ≡ Some c.index-2.result.now =
    ap (slice_get f.published.items) from
    ∙ slice_get_read f.published.items (length f.published.items) _ c.index-2.result.now refl
    (subst (λ x. x < length f.published.items) from source) c.index-2.ensures in
    let right = kept.right (from_of f.plan c.args.e) c.in-Some.result (read ∙ ap Some c.in-Some.is) in
    let may : Allows f.plan s (Fill c.args.e) = (
      right.1,
      unfilled_shows f.filled.items c.args.e c.index.result.now there c.index.ensures
          (sym c.is_some.ensures ∙ c.if-is_some.false),
    ) in
    let filled = filled_is (g.V.Visit.meaning f.visitor) (g.V.Visit.takes f.visitor) f.plan f.starts.items s
    f.unfetched.items f.published.items f.steps kept c.results_meet_their_equation.ensures f.filled.items c.args.e
    c.in_ok-copy-in-Some.field-0 inside right.1
    (c.in_ok-copy-in-Some.ensures ∙ right.0) in
    subst (λ fs. IsCore (g.V.Visit.meaning f.visitor) (g.V.Visit.takes f.visitor) f.plan f.starts.items (record {
      counters = f.counters.items;
      claimed = f.claimed.items;
      filled = fs;
      subtracted = f.subtracted.items;
      fetched = f.fetched.items;
    }) f.unfetched.items f.published.items (f.steps + 1))
    (sym filled) (fill_core (g.V.Visit.meaning f.visitor)
    (g.V.Visit.takes f.visitor) f.plan f.starts.items s f.unfetched.items f.published.items f.steps kept
    c.results_meet_their_equation.ensures c.args.e may)

pub returns-in_ok-copy-in-Some : goal.returns-in_ok-copy-in-Some
returns-in_ok-copy-in-Some g c =
    let kept = c.self.invariant in
    let f = c.self.inside in
    let d : PlanEdge = record { from = record { 0 = 0 }; to = record { 0 = 0 } } in
    let s = state_of f.counters.items f.claimed.items f.filled.items f.subtracted.items f.fetched.items in
    let there : c.args.e < length f.filled.items = let ok = f.filled.ok in search rules in
    let inside : c.args.e < length f.plan.edges =
    subst (λ x. c.args.e < x) (sym (length-map f.filled.items shown_in) ∙ kept.sound.filled_many) there in
    let from = from_is f.plan c.as_slice.result.now c.as_slice.ensures c.args.e d inside in
    let source : from_of f.plan c.args.e < length f.published.items =
    subst (λ x. from_of f.plan c.args.e < x) (sym kept.published_many)
    (source_inside (g.V.Visit.meaning f.visitor) f.plan kept.is_plan kept.free c.args.e inside) in
    let read : slice_get f.published.items (from_of f.plan c.args.e) ≡ Some c.index-2.result.now =
    ap (slice_get f.published.items) from
    ∙ slice_get_read f.published.items (length f.published.items) _ c.index-2.result.now refl
    (subst (λ x. x < length f.published.items) from source) c.index-2.ensures in
    let right = kept.right (from_of f.plan c.args.e) c.in-Some.result (read ∙ ap Some c.in-Some.is) in
    let may : Allows f.plan s (Fill c.args.e) = (
      right.1,
      unfilled_shows f.filled.items c.args.e c.index.result.now there c.index.ensures
          (sym c.is_some.ensures ∙ c.if-is_some.false),
    ) in
    let filled = filled_is (g.V.Visit.meaning f.visitor) (g.V.Visit.takes f.visitor) f.plan f.starts.items s
    f.unfetched.items f.published.items f.steps kept c.results_meet_their_equation.ensures f.filled.items c.args.e
    c.in_ok-copy-in-Some.field-0 inside right.1
    (c.in_ok-copy-in-Some.ensures ∙ right.0) in
    rw (← c.self.view_is) (
      may,
      ap (λ fs. seen f.plan f.visitor (record {
        counters = f.counters.items;
        claimed = f.claimed.items;
        filled = fs;
        subtracted = f.subtracted.items;
        fetched = f.fetched.items;
      })) filled,
    )

pub returns-in-None : goal.returns-in-None
returns-in-None g c =
    let kept = c.self.invariant in
    let f = c.self.inside in
    let d : PlanEdge = record { from = record { 0 = 0 }; to = record { 0 = 0 } } in
    let s = state_of f.counters.items f.claimed.items f.filled.items f.subtracted.items f.fetched.items in
    let there : c.args.e < length f.filled.items = let ok = f.filled.ok in search rules in
    let inside : c.args.e < length f.plan.edges =
    subst (λ x. c.args.e < x) (sym (length-map f.filled.items shown_in) ∙ kept.sound.filled_many) there in
    let from = from_is f.plan c.as_slice.result.now c.as_slice.ensures c.args.e d inside in
    let source : from_of f.plan c.args.e < length f.published.items =
    subst (λ x. from_of f.plan c.args.e < x) (sym kept.published_many)
    (source_inside (g.V.Visit.meaning f.visitor) f.plan kept.is_plan kept.free c.args.e inside) in
    let read : slice_get f.published.items (from_of f.plan c.args.e) ≡ Some c.index-2.result.now =
    ap (slice_get f.published.items) from
    ∙ slice_get_read f.published.items (length f.published.items) _ c.index-2.result.now refl
    (subst (λ x. x < length f.published.items) from source) c.index-2.ensures in
    rw (← c.self.view_is) (
      refl,
      (λ may. let there = kept.visited (from_of f.plan c.args.e) may.0 in
          let no : Some (Some there.0) ≡ Some None = sym there.1 ∙ read ∙ ap Some c.in-None.is in
          cc),
      refl,
    )
