use Rattle.std.proofs.Common.{rules, tests}
use Rattle.std.proofs.lemmas.Iterator.{YieldsList-from_slice}
use Rattle.std.proofs.lemmas.Iterator.Search.{all_from_yields_List}
use Rattle.target_mutators.specs.Idle.{is_in_system_alone}
use Rattle.target_mutators.proofs.leaving.are_in_system_alone.Goals as goal

-- each node is tested
pub returns : goal.returns
returns c =
    all_from_yields_List is_in_system_alone _ _ c.all.result c.all.ensures.ran
    (YieldsList-from_slice c.args.nodes.now cc) (λ x b q k. search (rules, tests))
