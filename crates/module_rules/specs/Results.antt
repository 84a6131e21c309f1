-- What rules without an axis answer: results of one variant.
use Rattle.std.specs.Prelude.{List, [], ◌∷◌, Option, Some, None}
use Rattle.bp_props.specs.declared.props.Props.{Props}
use Rattle.graph_nodes.specs.declared.variation.Variation.{Variation}
use Rattle.graph_nodes.specs.declared.variation.Variation.TheVariants.{Empty}
use Rattle.mutator_rules.specs.declared.request.Request.{Request}
use Rattle.mutator_rules.specs.declared.split.Split.{Split}

-- One variant with a record, and what it asks for.
abbrev pub one_variant : Props → List Request → Split Props
one_variant p asked = record { variants = (Empty, p) ∷ []; requests = asked }

-- The record of the first of some variants.
abbrev pub record_in : List (Variation × Props) → Option Props
record_in [] = None
record_in (v ∷ vs) = Some v.1

-- The record of a result is that of its first variant. A result without variants has none.
abbrev pub first_record : Split Props → Option Props
first_record made = record_in made.variants
