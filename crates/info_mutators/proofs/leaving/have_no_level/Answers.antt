use Rattle.std.proofs.Common.{rules, tests}
use Rattle.std.proofs.lemmas.Iterator.{YieldsList-from_slice}
use Rattle.std.proofs.lemmas.Iterator.Search.{all_from_yields_List}
use Rattle.info_mutators.specs.Idle.{has_no_level}
use Rattle.info_mutators.proofs.leaving.have_no_level.Goals as goal

-- each node is tested
pub returns : goal.returns
returns c =
    all_from_yields_List has_no_level _ _ c.all.result c.all.ensures.ran
    (YieldsList-from_slice c.args.nodes.now cc) (λ x b q k. search (rules, tests))
