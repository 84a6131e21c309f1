use Rattle.std.proofs.Common.{◌≡◌, take}
use Rattle.std.specs.List.{filter_map}
use Rattle.variant_graphs.specs.Inside.{led_by}
use Rattle.variant_graphs.proofs.assembly.lead_edges.Given as goal

abbrev pub invariant-loop-edge : goal.invariant-loop-edge
invariant-loop-edge g l =
    l.made.items ≡ filter_map (led_by (g.S.Splitter.rule l.s) l.numbering l.n.0 l.v) (take l.edge-index l.edges)
