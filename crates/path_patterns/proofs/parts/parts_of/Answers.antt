use Rattle.std.proofs.Common.{lit<, ◌∙◌}
use Rattle.std.proofs.lemmas.Iterator.Consumers.{YieldsList-end}
use Rattle.std.proofs.lemmas.Iterator.Splits.{YieldsList-from_str_split}
use Rattle.path_patterns.proofs.parts.parts_of.Goals as goal

-- the loop went over all components of the pattern
pub returns : goal.returns
returns c =
    let text = c.args.tail.now in
    let all = YieldsList-end (YieldsList-from_str_split 47 text (lit< tt) (cc) (cc) (cc)) c.loop-part.yielded _
    c.loop-part.yielded_by _ _ c.in-None.is c.next.ensures.steps in
    c.loop-part.invariant ∙ all.0
