use Rattle.std.proofs.Common.{◌<◌, ◌∙◌, ◌∷◌, [], ap, arith, length, refl, subst, sym, map, set}
use Rattle.std.specs.Arc.{arc_value}
use Rattle.std.proofs.lemmas.List.{length-append}
use Rattle.std.proofs.lemmas.Iterator.Adapters.{YieldsList-from_vec}
use Rattle.std.proofs.lemmas.Iterator.Consumers.{YieldsList-turn}
use Rattle.graph_nodes.specs.declared.graph.Node.{Node}
use Rattle.mutator_kinds.specs.Inside.{with_first}
use Rattle.mutator_kinds.proofs.Firsts.{given, firsts_none, length-with_firsts, firsts_step, asked_step}
use Rattle.mutator_kinds.proofs.in_place.put_each.Goals as goal

pub loop-out-init : goal.loop-out-init
loop-out-init g c = (firsts_none c.args.axis c.args.nodes.now.items, c.requires.none, refl)

pub index_mut-requires : goal.index_mut-requires
index_mut-requires g c =
    let road = YieldsList-from_vec {s = c.into_iter-out-iterator.result} c.args.outs.items
    c.into_iter-out-iterator.ensures.into_iter_gives.0
    (c.into_iter-out-iterator.ensures.into_iter_gives.1 ∙ c.args.outs.ok.0) in
    let turn = YieldsList-turn road c.loop-out.yielded c.loop-out.out-iterator c.loop-out.yielded_by
    c.next.result c.next.new.self c.in-Some.out c.in-Some.is c.next.ensures.steps in
    let many = c.requires.many in
    let at = c.loop-out.invariant.2 in
    let nodes = ap length c.loop-out.invariant.0
    ∙ length-with_firsts c.args.axis c.args.nodes.now.items (map arc_value c.loop-out.yielded) in
    subst (λ k. c.loop-out.n < k) (sym c.loop-out.nodes.ok.0) (omega (arith, turn.0))

pub loop-out-preserved : goal.loop-out-preserved
loop-out-preserved g c =
    let road = YieldsList-from_vec {s = c.into_iter-out-iterator.result} c.args.outs.items
    c.into_iter-out-iterator.ensures.into_iter_gives.0
    (c.into_iter-out-iterator.ensures.into_iter_gives.1 ∙ c.args.outs.ok.0) in
    let turn = YieldsList-turn road c.loop-out.yielded c.loop-out.out-iterator c.loop-out.yielded_by
    c.next.result c.next.new.self c.in-Some.out c.in-Some.is c.next.ensures.steps in
    let many = c.requires.many in
    let at = c.loop-out.invariant.2 in
    let lt : length c.loop-out.yielded < length c.args.nodes.now.items = omega (arith, turn.0) in
    let longer = length-append c.loop-out.yielded (c.in-Some.out ∷ []) in
    let was = c.index_mut.result.now in
    let made = c.in_ok-split.split in (
      ap (set c.loop-out.nodes.items c.loop-out.n)
          (c.put_first.ensures ∙ ap (with_first c.args.axis was) c.into_vec.ensures
          ∙ ap (λ (y : Node _). given c.args.axis y made) c.index_mut.ensures.value)
          ∙ firsts_step c.args.axis arc_value c.args.nodes.now.items c.loop-out.nodes.items c.loop-out.yielded
          c.loop-out.n c.in-Some.out made was lt c.loop-out.invariant.0 at c.in_ok-split.ensures,
      asked_step arc_value c.one_more_item.ensures c.loop-out.asked.items c.ask.new.asked.items c.loop-out.yielded
          (record { 0 = c.loop-out.n }) c.in-Some.out made made.requests c.loop-out.invariant.1 at c.in_ok-split.ensures
          refl c.in_ok-ask.ensures,
      omega arith,
    )
