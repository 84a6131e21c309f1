use Rattle.variant_graphs.proofs.Valid.{stays_valid}
use Rattle.variant_graphs.proofs.laws.splits_stay_valid.Goals as goal

pub returns : goal.returns
returns g c =
    λ s nodes valid free splits.
    stays_valid c.edges_join_nodes.ensures c.none_returns_where_numbering_rises.ensures s nodes valid free splits
