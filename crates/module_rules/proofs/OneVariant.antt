-- Lists of one variant.
use Rattle.std.proofs.Common.{List, [], ◌∷◌, arith}
use Rattle.bp_props.specs.declared.props.Props.{Props}
use Rattle.graph_nodes.specs.declared.variation.Variation.{Variation}
use Rattle.mutator_rules.specs.Shapes.{IsOne}
use Rattle.module_rules.specs.Laws.{VariantsDiffer}

pub one_differs : (variants : List (Variation × Props)) → IsOne variants → VariantsDiffer variants
one_differs [] one = absurd one
one_differs (v ∷ []) one = λ i j d before inside. absurd (omega arith)
one_differs (v ∷ w ∷ vs) one = absurd one
