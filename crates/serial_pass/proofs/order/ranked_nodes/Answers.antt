use Rattle.std.proofs.Common.{◌++◌, [], ◌∷◌, ◌∙◌, ap, sym, arith, rules, length, get_or}
use Rattle.std.proofs.lemmas.List.FromFn.{map-range_with_len_more, length-map-range_with_len, get_or-map-range_with_len}
use Rattle.serial_pass.specs.Heights.{height}
use Rattle.serial_pass.specs.Inside.{ranked_node}
use Rattle.serial_pass.proofs.order.ranked_nodes.Goals as goal

pub index-requires : goal.index-requires
index-requires c =
    let same = ap length c.in_ok-heights.ensures in
    let many = length-map-range_with_len (height c.args.plan.now) 0 c.args.plan.now.count in
    let ok = c.in_ok-heights.heights.ok in
    search rules

pub loop-n-preserved : goal.loop-n-preserved
loop-n-preserved c =
    let here = c.index.ensures ∙ ap (λ hs. get_or hs c.loop-n.n c.index.result.now) c.in_ok-heights.ensures
    ∙ get_or-map-range_with_len (height c.args.plan.now) 0 c.args.plan.now.count c.loop-n.n c.loop-n.n
    c.index.result.now c.loop-n-test.true (omega arith) in
    c.in_ok-push.ensures.items
    ∙ ap (λ h. c.loop-n.nodes.items ++ (h, record { 0 = c.loop-n.n }) ∷ []) here
    ∙ ap (λ l. l ++ ranked_node c.args.plan.now c.loop-n.n ∷ []) c.loop-n.invariant
    ∙ sym (map-range_with_len_more (ranked_node c.args.plan.now) 0 c.loop-n.n c.loop-n.n (omega arith))
