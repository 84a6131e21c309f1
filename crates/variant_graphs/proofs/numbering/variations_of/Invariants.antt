use Rattle.std.proofs.Common.{◌≡◌, map, take}
use Rattle.std.specs.List.{flat_map}
use Rattle.variant_graphs.proofs.numbering.variations_of.Given as goal

abbrev pub invariant-loop-list : goal.invariant-loop-list
invariant-loop-list g l =
    l.variations.items ≡ flat_map (map (g.S.Splitter.rule l.s).variation) (take l.list-index l.variants)
