use Rattle.std.proofs.Common.{◌∙◌, sym, arith}
use Rattle.graph_nodes.specs.declared.variation.Variation.TheVariants.{Empty}
use Rattle.graph_nodes.specs.Same.{same}
use Rattle.variant_graphs.proofs.Positions.{position_found, position_none}
use Rattle.variant_graphs.proofs.indices.first_index.Goals as goal

pub returns-then-is_same : goal.returns-then-is_same
returns-then-is_same c =
    position_found (same c.args.v) c.args.list.now c.loop-i.i Empty c.loop-i-test.true c.loop-i.invariant
    (sym c.is_same.ensures.test ∙ c.if-is_same.true)

pub returns : goal.returns
returns c = position_none (same c.args.v) c.args.list.now c.loop-i.i Empty (omega arith) c.loop-i.invariant
