use Rattle.std.proofs.Common.{sym, ◌∙◌}
use Rattle.variant_graphs.proofs.Positions.{position_only}
use Rattle.variant_graphs.proofs.indices.index_in.Goals as goal

pub returns-then-is_same : goal.returns-then-is_same
returns-then-is_same c =
    position_only c.same_means_equal.ensures c.args.v c.args.list.now c.args.guess c.requires c.if-guess-list.true
    (sym c.is_same.ensures.test ∙ c.if-is_same.true)
