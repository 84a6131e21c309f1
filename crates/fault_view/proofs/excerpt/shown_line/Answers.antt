use Rattle.std.proofs.Common.{rules, tests}
use Rattle.std.proofs.lemmas.Iterator.{YieldsList-from_chars, YieldsList-from_map, text_from_collect}
use Rattle.fault_view.proofs.excerpt.shown_line.Goals as goal

pub returns : goal.returns
returns c =
    text_from_collect _ c.collect.ensures.ran
    (YieldsList-from_map _ _ (YieldsList-from_chars c.args.line.now c.utf8.line cc) c.map.ensures.closure
    (λ x r q k. search (rules, tests)))
