use Rattle.std.proofs.Common.{◌<◌, ◌∙◌, ◌∷◌, [], ap, arith, length, refl, subst, sym, map, set}
use Rattle.std.specs.Arc.{arc_value}
use Rattle.std.proofs.lemmas.List.{length-append}
use Rattle.std.proofs.lemmas.Iterator.Adapters.{YieldsList-from_vec}
use Rattle.std.proofs.lemmas.Iterator.Consumers.{YieldsList-turn}
use Rattle.graph_nodes.specs.declared.graph.Node.{Node}
use Rattle.variant_graphs.specs.Payloads.{with_payload}
use Rattle.variant_graphs.proofs.Kept.{length-given}
use Rattle.variant_graphs.proofs.Replacing.{none_given, given_step}
use Rattle.variant_graphs.proofs.payloads.renew_nodes.Goals as goal

pub loop-out-init : goal.loop-out-init
loop-out-init g c = (none_given c.args.nodes.now.items, refl)

pub index_mut-node-requires : goal.index_mut-node-requires
index_mut-node-requires g c =
    let road = YieldsList-from_vec {s = c.into_iter-out-iterator.result} c.args.outs.items
    c.into_iter-out-iterator.ensures.into_iter_gives.0
    (c.into_iter-out-iterator.ensures.into_iter_gives.1 ∙ c.args.outs.ok.0) in
    let turn = YieldsList-turn road c.loop-out.yielded c.loop-out.out-iterator c.loop-out.yielded_by
    c.next.result c.next.new.self c.in-Some.out c.in-Some.is c.next.ensures.steps in
    let many = c.requires in
    let at = c.loop-out.invariant.1 in
    let nodes = ap length c.loop-out.invariant.0
    ∙ length-given c.args.nodes.now.items (map arc_value c.loop-out.yielded) in
    subst (λ k. c.loop-out.n < k) (sym c.loop-out.nodes.ok.0) (omega (arith, turn.0))

pub loop-out-preserved : goal.loop-out-preserved
loop-out-preserved g c =
    let road = YieldsList-from_vec {s = c.into_iter-out-iterator.result} c.args.outs.items
    c.into_iter-out-iterator.ensures.into_iter_gives.0
    (c.into_iter-out-iterator.ensures.into_iter_gives.1 ∙ c.args.outs.ok.0) in
    let turn = YieldsList-turn road c.loop-out.yielded c.loop-out.out-iterator c.loop-out.yielded_by
    c.next.result c.next.new.self c.in-Some.out c.in-Some.is c.next.ensures.steps in
    let many = c.requires in
    let at = c.loop-out.invariant.1 in
    let lt : length c.loop-out.yielded < length c.args.nodes.now.items = omega (arith, turn.0) in
    let longer = length-append c.loop-out.yielded (c.in-Some.out ∷ []) in
    let was = c.index_mut-node.result.now in (
      ap (λ (y : Node _). set c.loop-out.nodes.items c.loop-out.n (with_payload y c.in_ok-payload.payload))
          c.index_mut-node.ensures.value
          ∙ given_step arc_value c.args.nodes.now.items c.loop-out.nodes.items c.loop-out.yielded c.loop-out.n
          c.in-Some.out
          c.in_ok-payload.payload was lt c.loop-out.invariant.0 at c.in_ok-payload.ensures,
      omega arith,
    )
