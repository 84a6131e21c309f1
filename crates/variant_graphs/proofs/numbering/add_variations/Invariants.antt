use Rattle.std.proofs.Common.{◌≡◌, ◌++◌, map, take}
use Rattle.variant_graphs.proofs.numbering.add_variations.Given as goal

abbrev pub invariant-loop-variant : goal.invariant-loop-variant
invariant-loop-variant g l =
    l.variations.items
    ≡ l.fn.variations.items ++ map (g.S.Splitter.rule l.s).variation (take l.variant-index l.variants)
