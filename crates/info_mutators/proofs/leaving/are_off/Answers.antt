use Rattle.std.proofs.Common.{rules, tests}
use Rattle.std.proofs.lemmas.Iterator.{YieldsList-from_slice}
use Rattle.std.proofs.lemmas.Iterator.Search.{all_from_yields_List}
use Rattle.info_mutators.specs.Idle.{is_off}
use Rattle.info_mutators.proofs.leaving.are_off.Goals as goal

-- each node is tested
pub returns : goal.returns
returns c =
    all_from_yields_List is_off _ _ c.all.result c.all.ensures.ran
    (YieldsList-from_slice c.args.nodes.now cc) (λ x b q k. search (rules, tests))
