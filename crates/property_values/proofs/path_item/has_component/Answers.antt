use Rattle.std.proofs.Common.{rules, tests, lit<, ◌∙◌}
use Rattle.std.proofs.lemmas.Iterator.Search.{any_from_yields_List}
use Rattle.std.proofs.lemmas.Iterator.Splits.{YieldsList-from_str_split}
use Rattle.bp_faults.specs.Paths.{is_component}
use Rattle.property_values.specs.Paths.{parts}
use Rattle.property_values.proofs.Joined.{some_component}
use Rattle.property_values.proofs.path_item.has_component.Goals as goal

-- the parts come from the split, and each is tested
pub returns : goal.returns
returns c =
    any_from_yields_List is_component _ _ c.any.result c.any.ensures.ran
    (YieldsList-from_str_split 47 c.args.item.now
    (lit< tt) c.split.ensures.text c.split.ensures.has_more c.split.ensures.pattern)
    (λ x b q k. search (rules, tests))
    ∙ some_component (parts c.args.item.now)
