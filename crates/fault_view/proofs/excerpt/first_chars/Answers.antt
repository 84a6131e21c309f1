use Rattle.std.proofs.lemmas.Iterator.{YieldsList-from_chars, YieldsList-from_take, items_from_collect}
use Rattle.fault_view.proofs.excerpt.first_chars.Goals as goal

pub returns : goal.returns
returns c =
    items_from_collect _ c.collect.ensures.ran
    (YieldsList-from_take c.args.count (YieldsList-from_chars c.args.line.now c.utf8.line cc) cc)
