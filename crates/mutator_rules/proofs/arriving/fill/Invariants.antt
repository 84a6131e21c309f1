use Rattle.std.proofs.Common.{◌≡◌, length, take}
use Rattle.std.specs.Prelude.{slice_index}
use Rattle.mutator_rules.specs.Arrivals.{arrivals}
use Rattle.mutator_rules.proofs.Filled.{ArePut, so_far}
use Rattle.mutator_rules.proofs.arriving.fill.Given as goal

abbrev pub invariant-loop-node : goal.invariant-loop-node
invariant-loop-node g l = record {
  number : l.n ≡ l.node-index;
  many : length l.items.items ≡ length l.fn.items.items;
  slots : length l.next.items ≡ length l.fn.next.items;
  put : ArePut (length l.g.nodes) (slice_index l.fn.next.items) (arrivals
      (take l.node-index l.g.nodes)) l.next.items l.items.items;
}

abbrev pub invariant-loop-edge : goal.invariant-loop-edge
invariant-loop-edge g l = record {
  number : l.n ≡ l.node-index;
  many : length l.items.items ≡ length l.fn.items.items;
  slots : length l.next.items ≡ length l.fn.next.items;
  put : ArePut (length l.g.nodes) (slice_index l.fn.next.items) (so_far l.g.nodes l.n
      (take l.edge-index l.edge-items)) l.next.items l.items.items;
}
