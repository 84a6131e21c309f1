use Rattle.std.proofs.Common.{rules, tests}
use Rattle.std.proofs.lemmas.Iterator.{YieldsList-from_chars, YieldsList-from_take, YieldsList-from_map}
use Rattle.std.proofs.lemmas.Iterator.{text_from_collect}
use Rattle.bp_faults.proofs.line.shown_subject.Goals as goal

pub returns : goal.returns
returns c = text_from_collect _ c.collect.ensures.ran
    (YieldsList-from_map _ _
    (YieldsList-from_take 80 (YieldsList-from_chars c.args.text.now c.utf8.text cc) cc) c.map.ensures.closure
    (λ x r q k. search (rules, tests)))
