-- Which variant of another module a node wants.
use Rattle.std.specs.Prelude.{List}
use Rattle.graph_nodes.specs.declared.variation.Variation.{Variation}
use Rattle.graph_nodes.specs.declared.variations.Axis.TheVariants.{Target, Image}
use Rattle.module_rules.specs.Asking.{variation_on}
use Rattle.mutator_rules.specs.declared.request.Wanted.{Wanted}

-- One of the node's own target and image, with a link.
abbrev pub own_with : List Variation → Variation → Wanted
own_with vars link = record { target = variation_on Target vars; image = variation_on Image vars; link = link }
