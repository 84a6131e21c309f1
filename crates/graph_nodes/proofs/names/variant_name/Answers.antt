use Rattle.std.proofs.Common.{◌∙◌, ap, get_or}
use Rattle.graph_nodes.specs.declared.variation.Variation.TheVariants.{Empty}
use Rattle.graph_nodes.specs.Inside.{name_with}
use Rattle.graph_nodes.specs.Names.{spelling}
use Rattle.graph_nodes.proofs.Spelled.{name_more}
use Rattle.graph_nodes.proofs.names.variant_name.Goals as goal

pub loop-variation-preserved : goal.loop-variation-preserved
loop-variation-preserved c =
    c.in_ok-append.ensures
    ∙ ap (λ name.
    name_with name (spelling (get_or c.as_slice-variation-items.result.now c.loop-variation.variation-index Empty)))
    c.loop-variation.invariant
    ∙ name_more c.as_slice-variation-items.result.now c.loop-variation.variation-index Empty c.loop-variation-test.true
