use Rattle.std.proofs.Common.{rules}
use Rattle.std.proofs.lemmas.Fn.{always_returns_same}
use Rattle.bp_props.specs.Groups.{by_id}
use Rattle.bp_props.proofs.Indices.{search_gives_index}
use Rattle.bp_props.proofs.pairs.index_of_id.Goals as goal

pub returns : goal.returns
returns c =
    search_gives_index c.args.pairs.now c.args.id c.binary_search_by.result c.requires c.binary_search_by.ensures.bound
    (c.binary_search_by.ensures.position (λ e. by_id e.0 c.args.id)
    (always_returns_same _ _ _ (λ a r g called. (search rules, search rules))))
