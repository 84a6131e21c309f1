use Rattle.std.proofs.Common.{◌≡◌, ◌<◌, ◌∙◌, ap, sym, subst, [], ◌∷◌, ◌++◌, length, length-set, get_or, arith}
use Rattle.std.proofs.lemmas.List.{get_or_read}
use Rattle.std.proofs.lemmas.List.Elements.{All-from_recursion}
use Rattle.graph_nodes.specs.declared.graph.Node.{Node}
use Rattle.reverse_deps.proofs.Listed.{one_more_node}
use Rattle.reverse_deps.proofs.directory.nodes_by_module.Goals as goal

pub loop-n-preserved : goal.loop-n-preserved
loop-n-preserved g c =
    let nodes = c.args.g.now.nodes in
    let n = c.loop-n.n in
    let node = c.node-item.result in
    let count = ap length c.as_slice-node-items.ensures in
    let lt : n < length nodes = omega arith in
    let is : node ≡ get_or nodes n node = c.node-item.is ∙ ap (λ l. get_or l n node) c.as_slice-node-items.ensures in
    let many = c.loop-n.invariant.many in
    let accepted = subst (λ (x : Node _). x.«module».0 < length c.args.mods.now) (sym is)
    (All-from_recursion (λ (x : Node _). x.«module».0 < length c.args.mods.now) nodes c.requires.accepted n node lt) in
    let has_list : node.«module».0 < length c.loop-n.lists.items = omega (arith, accepted) in
    record {
      many = length-set c.loop-n.lists.items node.«module».0 c.push.new.self ∙ many;
      each = λ m within.
          one_more_node c.one_more_item.ensures nodes c.loop-n.lists.items n node lt is has_list m c.push.new.self
          (c.in_ok-push.ensures
          ∙ ap (λ l. l ++ record { 0 = n } ∷ [])
          (get_or_read c.loop-n.lists.items _ _ has_list c.index_mut.ensures.value []))
          (c.loop-n.invariant.each m within);
    }
