use Rattle.std.proofs.Common.{rules, tests}
use Rattle.std.proofs.lemmas.Iterator.{YieldsList-from_slice}
use Rattle.std.proofs.lemmas.Iterator.Search.{all_from_yields_List}
use Rattle.defaults_mutator.specs.Idle.{has_no_edges}
use Rattle.defaults_mutator.proofs.leaving.have_no_edges.Goals as goal

-- each node is tested
pub returns : goal.returns
returns c =
    all_from_yields_List has_no_edges _ _ c.all.result c.all.ensures.ran
    (YieldsList-from_slice c.args.nodes.now cc) (λ x b q k. search (rules, tests))
