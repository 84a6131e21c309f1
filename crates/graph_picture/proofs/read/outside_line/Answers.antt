use Rattle.std.proofs.Common.{◌<◌, arith, ap, length, subst, rules, Some}
use Rattle.std.specs.List.{AllByRecursion}
use Rattle.graph_picture.specs.declared.variant.Arrow.{Arrow}
use Rattle.graph_picture.specs.Inside.{FindsFirst}
use Rattle.std.proofs.Common.{List}
use Rattle.graph_picture.proofs.Outside.{lines_next, lines_room, leads_more, outside_is, found_inside}
use Rattle.graph_picture.proofs.read.outside_line.Goals as goal

pub overflow_add-result : goal.overflow_add-result
overflow_add-result c =
    let i = c.loop-variant.variant-index in
    let room = lines_room c.args.variants.now i c.variant-item.result c.loop-variant-test.true c.variant-item.is in
    let found = found_inside _ _ _ c.in-Some.ensures in
    let e = ap length c.as_slice-edges.ensures in
    let k = c.loop-variant.invariant.line_is in
    search rules

pub overflow_add-result-in-Some : goal.overflow_add-result-in-Some
overflow_add-result-in-Some c =
    let i = c.loop-variant.variant-index in
    let room = lines_room c.args.variants.now i c.variant-item.result c.loop-variant-test.true c.variant-item.is in
    let found = found_inside _ _ _ c.in-Some.ensures in
    let e = ap length c.as_slice-edges.ensures in
    let k = c.loop-variant.invariant.line_is in
    search rules

pub overflow_add-line-in-loop-variant : goal.overflow_add-line-in-loop-variant
overflow_add-line-in-loop-variant c =
    let i = c.loop-variant.variant-index in
    let room = lines_room c.args.variants.now i c.variant-item.result c.loop-variant-test.true c.variant-item.is in
    let e = ap length c.as_slice-edges.ensures in
    let k = c.loop-variant.invariant.line_is in
    search rules

pub loop-variant-preserved : goal.loop-variant-preserved
loop-variant-preserved c =
    let vs = c.args.variants.now in
    let i = c.loop-variant.variant-index in
    let v = c.variant-item.result in
    let next = lines_next vs i v c.loop-variant-test.true c.variant-item.is in
    let e = ap length c.as_slice-edges.ensures in
    let k = c.loop-variant.invariant.line_is in
    let Inside : List Arrow → Type 0 = AllByRecursion (λ (a : Arrow). a.to < length vs) in
    record {
      line_is = omega arith;
      inside = leads_more vs i v c.loop-variant-test.true c.variant-item.is c.loop-variant.invariant.inside
          (subst Inside c.as_slice-edges.ensures c.in_default.ensures);
    }

pub returns-in-Some : goal.returns-in-Some
returns-in-Some c =
    let vs = c.args.variants.now in
    let Found : List Arrow → Type 0 = λ es. FindsFirst (length vs) es (Some c.in-Some.index) in
    outside_is vs c.loop-variant.variant-index c.variant-item.result c.loop-variant-test.true c.variant-item.is
    c.in-Some.index c.loop-variant.line c.loop-variant.invariant.inside c.loop-variant.invariant.line_is
    (subst Found c.as_slice-edges.ensures c.in-Some.ensures)
