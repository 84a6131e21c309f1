use Rattle.std.proofs.Common.{rules, tests, lit<}
use Rattle.std.proofs.lemmas.Iterator.Search.{all_from_yields_List}
use Rattle.std.proofs.lemmas.Iterator.Splits.{YieldsList-from_str_split}
use Rattle.command_words.specs.Values.{has_bytes}
use Rattle.command_words.proofs.items.has_items.Goals as goal

-- the items come from the split, and each is tested
pub returns : goal.returns
returns c =
    all_from_yields_List has_bytes _ _ c.all.result c.all.ensures.ran
    (YieldsList-from_str_split 44 c.args.text.now
    (lit< tt) c.split.ensures.text c.split.ensures.has_more c.split.ensures.pattern)
    (λ x b q k. search (rules, tests))
