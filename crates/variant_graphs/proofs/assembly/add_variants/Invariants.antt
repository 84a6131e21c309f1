use Rattle.std.proofs.Common.{◌≡◌, ◌++◌, length, map}
use Rattle.variant_graphs.specs.Inside.{node_by}
use Rattle.variant_graphs.proofs.assembly.add_variants.Given as goal

abbrev pub invariant-loop-variant : goal.invariant-loop-variant
invariant-loop-variant g l =
    (l.made.items ≡ l.fn.made.items ++ map (node_by (g.S.Splitter.rule l.s) l.numbering l.n.0 l.node) l.yielded)
    × (l.index ≡ length l.yielded)
