use Rattle.std.proofs.Common.{rules, tests, ◌∙◌, sym}
use Rattle.std.specs.Arc.{arc_value}
use Rattle.std.proofs.lemmas.Iterator.{YieldsList-from_slice}
use Rattle.std.proofs.lemmas.Iterator.Search.{all_from_yields_List}
use Rattle.std.proofs.lemmas.List.Folds.{list_all-map}
use Rattle.mutator_kinds.specs.Inside.{has_one_variant}
use Rattle.mutator_kinds.proofs.in_place.has_one_each.Goals as goal

-- each result is tested
pub returns : goal.returns
returns g c =
    all_from_yields_List (λ out. has_one_variant (arc_value out)) _ _ c.all.result c.all.ensures.ran
    (YieldsList-from_slice c.args.outs.now cc) (λ x b q k. search (rules, tests))
    ∙ sym (list_all-map has_one_variant arc_value c.args.outs.now)
