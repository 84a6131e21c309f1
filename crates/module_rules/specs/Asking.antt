-- Requests for edges.
use Rattle.std.specs.Prelude.{List, map, false, slice_index_or}
use Rattle.bp_faults.specs.declared.place.Item.{Item}
use Rattle.graph_nodes.specs.declared.graph.EdgeKind.{EdgeKind}
use Rattle.graph_nodes.specs.declared.variation.Variation.{Variation}
use Rattle.graph_nodes.specs.declared.variation.Variation.TheVariants.{Empty, Common}
use Rattle.graph_nodes.specs.declared.variations.Axis.{Axis}
use Rattle.graph_nodes.specs.Axes.{axis_index}
use Rattle.mutator_rules.specs.declared.request.Request.{Request}
use Rattle.mutator_rules.specs.declared.request.Wanted.{Wanted}

-- The variation of a node along an axis, out of its list of five.
abbrev pub variation_on : Axis → List Variation → Variation
variation_on axis vars = slice_index_or vars (axis_index axis) Empty

-- Before any split all three variations are wanted empty.
abbrev pub no_variations : Wanted
no_variations = record { target = Empty; image = Empty; link = Empty }

-- Of a `filegroup` the variant for all targets is wanted.
abbrev pub common : Wanted
common = record { target = Common; image = Empty; link = Empty }

-- An edge is asked for to the module that an item names, at the item's place.
abbrev pub request : EdgeKind → Wanted → Item → Request
request kind want item = record { reverse = false; kind = kind; name = item.text; at = item.at; want = want }

-- One edge is asked for by each item, in order.
abbrev pub requests : EdgeKind → Wanted → List Item → List Request
requests kind want items = map (request kind want) items
