use Rattle.std.proofs.Common.{lit<, ap, ◌∙◌}
use Rattle.std.specs.List.{fold}
use Rattle.std.proofs.lemmas.Iterator.Consumers.{YieldsList-end}
use Rattle.std.proofs.lemmas.Iterator.Splits.{YieldsList-from_str_split}
use Rattle.property_values.specs.Inside.{path_and}
use Rattle.property_values.proofs.Joined.{grown_placed}
use Rattle.property_values.proofs.path_item.path_below.Goals as goal

-- the loop went over all parts of the item
pub returns : goal.returns
returns c =
    let dir = c.args.dir.now in
    let item = c.args.item.now in
    let all = YieldsList-end (YieldsList-from_str_split 47 item (lit< tt) (cc) (cc) (cc)) c.loop-part.yielded
    _ c.loop-part.yielded_by _ _ c.in-None.is c.next.ensures.steps in
    c.loop-part.invariant ∙ ap (fold path_and dir) all.0 ∙ grown_placed dir item c.as_text.ensures.normal
