use Rattle.std.proofs.Common.{◌≡◌, ◌+◌, ◌<◌, ◌≤◌, ℕ, suc, List, [], length, arith, ap, sym, subst, ◌∙◌, Option}
use Rattle.std.proofs.lemmas.Bool.Decides.{nat_tests}
use Rattle.module_graph.specs.Search.{IsGrowing, unfound, AreDistances}
use Rattle.module_graph.proofs.Levels.{level_done, all_distances, written}
use Rattle.module_graph.proofs.distances.distances.Goals as goal

pub loop-front-preserved : goal.loop-front-preserved
loop-front-preserved c =
    let same : length c.grow.new.found ≡ length c.loop-front.found.items =
    c.grow.auto.found ∙ ap length c.as_mut_slice.ensures.value in
    let all = written c.loop-front.found.items c.grow.new.found c.loop-front.found.len same c.loop-front.found.ok.0 in
    let e : suc c.loop-front.level ≡ c.loop-front.level + 1 = omega arith in
    let test = c.if-is_empty.ensures in
    let some : 0 < length c.in_ok-next.next.items = grind (arith, nat_tests) in
    let fewer : unfound c.grow.new.found + length c.in_ok-next.next.items ≡ unfound c.loop-front.found.items =
    c.in_ok-next.ensures.fewer ∙ ap unfound c.as_mut_slice.ensures.value in
    let most : c.loop-front.level + unfound c.loop-front.found.items ≤ c.args.plan.now.count =
    c.loop-front.invariant.1 in
    let begun = subst (λ (l : List (Option ℕ)). IsGrowing c.args.plan.now.edges c.args.s c.loop-front.level
    c.deref.result.now 0 l []) (sym c.as_mut_slice.ensures.value)
    (subst (λ (l : List ℕ). IsGrowing c.args.plan.now.edges c.args.s c.loop-front.level l 0 c.loop-front.found.items [])
    (sym c.deref.ensures.value) c.loop-front.invariant.0) in (
      subst (λ l. IsGrowing c.args.plan.now.edges c.args.s (c.loop-front.level + 1) c.in_ok-next.next.items 0 l [])
          (sym all)
          (subst (λ k. IsGrowing c.args.plan.now.edges c.args.s k c.in_ok-next.next.items 0 c.grow.new.found []) e
          (level_done c.args.plan.now.edges c.args.s c.loop-front.level c.deref.result.now (length c.deref.result.now)
          c.grow.new.found c.in_ok-next.next.items (c.in_ok-next.ensures.grown c.args.s begun) (omega arith))),
      subst (λ (l : List (Option ℕ)). c.loop-front.level + 1 + unfound l ≤ c.args.plan.now.count) (sym all)
          (omega arith),
      c.in_ok-next.ensures.inside,
      ap length all ∙ same ∙ c.loop-front.invariant.3,
    )

pub returns-clause-exact : goal.returns-clause-exact
returns-clause-exact c =
    let same : length c.grow.new.found ≡ length c.loop-front.found.items =
    c.grow.auto.found ∙ ap length c.as_mut_slice.ensures.value in
    let all = written c.loop-front.found.items c.grow.new.found c.loop-front.found.len same c.loop-front.found.ok.0 in
    let test = c.if-is_empty.ensures in
    let empty : length c.in_ok-next.next.items ≡ 0 = grind (arith, nat_tests) in
    let begun = subst (λ (l : List (Option ℕ)). IsGrowing c.args.plan.now.edges c.args.s c.loop-front.level
    c.deref.result.now 0 l []) (sym c.as_mut_slice.ensures.value)
    (subst (λ (l : List ℕ). IsGrowing c.args.plan.now.edges c.args.s c.loop-front.level l 0 c.loop-front.found.items [])
    (sym c.deref.ensures.value) c.loop-front.invariant.0) in
    subst (λ (l : List (Option ℕ)). AreDistances c.args.plan.now.edges c.args.s l) (sym all)
    (all_distances c.args.plan.now.edges c.args.s c.loop-front.level c.deref.result.now (length c.deref.result.now)
    c.grow.new.found c.in_ok-next.next.items (c.in_ok-next.ensures.grown c.args.s begun) (omega arith) empty)
