use Rattle.std.proofs.Common.{◌≡◌, ◌∙◌, ◌<◌, ◌+◌, ap, subst, sym, length, get_or, take, arith, refl, length-set}
use Rattle.std.proofs.lemmas.List.{get_or_read, take_all}
use Rattle.std.specs.Prelude.{slice_index}
use Rattle.mutator_rules.specs.Arrivals.{arrivals}
use Rattle.mutator_rules.specs.Inside.{HaveRoom}
use Rattle.mutator_rules.proofs.Filled.{ArePut, far_begun, far_ended, far_free, far_inside, far_put, no_edge}
use Rattle.mutator_rules.proofs.arriving.fill.Goals as goal

pub loop-node-init : goal.loop-node-init
loop-node-init g c = record {
  number = refl;
  many = refl;
  slots = refl;
  put = record { free = λ t lt. omega arith; stand = λ t j d lt lj. absurd (omega arith) };
}

pub loop-edge-init : goal.loop-edge-init
loop-edge-init g c =
    let nodes = c.args.g.now.nodes in
    let begins = slice_index c.args.next.now.items in
    let next = c.loop-node.next.items in
    let items = c.loop-node.items.items in
    let number = c.loop-node.invariant.number in
    let node = c.node-item.result in
    let count = ap length c.as_slice-node-items.ensures in
    let lt : c.loop-node.n < length c.args.g.now.nodes = omega arith in
    let is : node ≡ get_or nodes c.loop-node.n node =
    c.node-item.is ∙ ap (λ l. get_or l c.loop-node.node-index node) c.as_slice-node-items.ensures ∙ ap
    (λ k. get_or nodes k node) (sym number) in
    record {
      number = number;
      many = c.loop-node.invariant.many;
      slots = c.loop-node.invariant.slots;
      put = far_begun nodes c.loop-node.n c.one_more_item.ensures node lt is begins next items
          c.as_slice-edge-items.result.now
          (subst (λ k. ArePut (length nodes) begins (arrivals (take k nodes)) next items)
          (sym number) c.loop-node.invariant.put);
    }

pub index_mut-requires : goal.index_mut-requires
index_mut-requires g c =
    let nodes = c.args.g.now.nodes in
    let begins = slice_index c.args.next.now.items in
    let number = c.loop-node.invariant.number in
    let node = c.node-item.result in
    let count = ap length c.as_slice-node-items.ensures in
    let lt : c.loop-node.n < length c.args.g.now.nodes = omega arith in
    let is : node ≡ get_or nodes c.loop-node.n node =
    c.node-item.is ∙ ap (λ l. get_or l c.loop-node.node-index node) c.as_slice-node-items.ensures ∙ ap
    (λ k. get_or nodes k node) (sym number) in
    let es = c.as_slice-edge-items.result.now in
    let inside = far_inside nodes c.loop-node.n node c.requires.numbered.ends lt is es c.loop-edge.edge-index no_edge
    c.as_slice-edge-items.ensures c.loop-edge-test.true in
    let slots = c.loop-edge.invariant.slots in
    let enough = c.requires.many in
    let slot = get_or_read c.loop-edge.next.items _ _ (omega arith) c.index-slot.ensures 0 in
    let room = subst (λ k. HaveRoom begins nodes k) (sym c.loop-edge.invariant.many) c.requires.room in
    let free = far_free nodes c.loop-node.n c.one_more_item.ensures node lt is begins c.loop-edge.next.items
    c.loop-edge.items.items room
    es c.as_slice-edge-items.ensures c.loop-edge.edge-index no_edge c.loop-edge-test.true inside
    c.loop-edge.invariant.put _ slot in
    let ok = c.loop-edge.items.ok.0 in
    omega arith

pub overflow_add-slot : goal.overflow_add-slot
overflow_add-slot g c =
    let nodes = c.args.g.now.nodes in
    let begins = slice_index c.args.next.now.items in
    let number = c.loop-node.invariant.number in
    let node = c.node-item.result in
    let count = ap length c.as_slice-node-items.ensures in
    let lt : c.loop-node.n < length c.args.g.now.nodes = omega arith in
    let is : node ≡ get_or nodes c.loop-node.n node =
    c.node-item.is ∙ ap (λ l. get_or l c.loop-node.node-index node) c.as_slice-node-items.ensures ∙ ap
    (λ k. get_or nodes k node) (sym number) in
    let es = c.as_slice-edge-items.result.now in
    let inside = far_inside nodes c.loop-node.n node c.requires.numbered.ends lt is es c.loop-edge.edge-index no_edge
    c.as_slice-edge-items.ensures c.loop-edge-test.true in
    let slots = c.loop-edge.invariant.slots in
    let enough = c.requires.many in
    let slot = get_or_read c.loop-edge.next.items _ _ (omega arith) c.index-slot.ensures 0 in
    let room = subst (λ k. HaveRoom begins nodes k) (sym c.loop-edge.invariant.many) c.requires.room in
    let free = far_free nodes c.loop-node.n c.one_more_item.ensures node lt is begins c.loop-edge.next.items
    c.loop-edge.items.items room
    es c.as_slice-edge-items.ensures c.loop-edge.edge-index no_edge c.loop-edge-test.true inside
    c.loop-edge.invariant.put _ slot in
    let few = room.few in
    omega arith

pub loop-edge-preserved : goal.loop-edge-preserved
loop-edge-preserved g c =
    let nodes = c.args.g.now.nodes in
    let begins = slice_index c.args.next.now.items in
    let number = c.loop-node.invariant.number in
    let node = c.node-item.result in
    let count = ap length c.as_slice-node-items.ensures in
    let lt : c.loop-node.n < length c.args.g.now.nodes = omega arith in
    let is : node ≡ get_or nodes c.loop-node.n node =
    c.node-item.is ∙ ap (λ l. get_or l c.loop-node.node-index node) c.as_slice-node-items.ensures ∙ ap
    (λ k. get_or nodes k node) (sym number) in
    let es = c.as_slice-edge-items.result.now in
    let inside = far_inside nodes c.loop-node.n node c.requires.numbered.ends lt is es c.loop-edge.edge-index no_edge
    c.as_slice-edge-items.ensures c.loop-edge-test.true in
    let slots = c.loop-edge.invariant.slots in
    let enough = c.requires.many in
    let slot = get_or_read c.loop-edge.next.items _ _ (omega arith) c.index-slot.ensures 0 in
    let room = subst (λ k. HaveRoom begins nodes k) (sym c.loop-edge.invariant.many) c.requires.room in
    record {
      number = number;
      many = length-set c.loop-edge.items.items _ _ ∙ c.loop-edge.invariant.many;
      slots = length-set c.loop-edge.next.items _ _ ∙ slots;
      put = far_put nodes c.loop-node.n c.one_more_item.ensures node lt is begins c.loop-edge.next.items
          c.loop-edge.items.items room
          es c.as_slice-edge-items.ensures c.loop-edge.edge-index no_edge c.loop-edge-test.true inside
          c.loop-edge.invariant.put _ slot (omega arith);
    }

pub loop-node-preserved : goal.loop-node-preserved
loop-node-preserved g c =
    let nodes = c.args.g.now.nodes in
    let begins = slice_index c.args.next.now.items in
    let next = c.loop-edge.next.items in
    let items = c.loop-edge.items.items in
    let number = c.loop-node.invariant.number in
    let node = c.node-item.result in
    let count = ap length c.as_slice-node-items.ensures in
    let lt : c.loop-node.n < length c.args.g.now.nodes = omega arith in
    let is : node ≡ get_or nodes c.loop-node.n node =
    c.node-item.is ∙ ap (λ l. get_or l c.loop-node.node-index node) c.as_slice-node-items.ensures ∙ ap
    (λ k. get_or nodes k node) (sym number) in
    record {
      number = ap (λ k. k + 1) number;
      many = c.loop-edge.invariant.many;
      slots = c.loop-edge.invariant.slots;
      put = subst (λ k. ArePut (length nodes) begins (arrivals (take (k + 1) nodes)) next items) number
          (far_ended nodes c.loop-node.n c.one_more_item.ensures node lt is begins next items c.loop-edge.edge-index
          c.as_slice-edge-items.result.now
          c.as_slice-edge-items.ensures c.loop-edge-test.false c.loop-edge.invariant.put);
    }

pub returns : goal.returns
returns g c =
    let nodes = c.args.g.now.nodes in
    let begins = slice_index c.args.next.now.items in
    let count = ap length c.as_slice-node-items.ensures in
    let whole = take_all c.loop-node.node-index nodes (omega arith) in
    let put = subst (λ l. ArePut (length nodes) begins (arrivals l) c.loop-node.next.items c.loop-node.items.items)
    whole c.loop-node.invariant.put in
    record { many = c.loop-node.invariant.many; each = put.stand }
