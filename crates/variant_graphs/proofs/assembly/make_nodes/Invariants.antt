use Rattle.std.proofs.Common.{◌≡◌, length, take}
use Rattle.variant_graphs.specs.Splitting.{split_nodes, splitting}
use Rattle.variant_graphs.proofs.assembly.make_nodes.Given as goal

abbrev pub invariant-loop-list : goal.invariant-loop-list
invariant-loop-list g l =
    (l.made.items ≡ split_nodes (splitting (g.S.Splitter.rule l.s) l.fn.variants.items) (take l.n l.g.nodes))
    × (l.n ≡ length l.yielded)
