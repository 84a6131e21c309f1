use Rattle.std.proofs.Common.{◌-◌, lit<, ap, ◌∙◌, [], length, get_or}
use Rattle.std.proofs.lemmas.Iterator.Consumers.{YieldsList-end}
use Rattle.std.proofs.lemmas.Iterator.Splits.{YieldsList-from_str_split}
use Rattle.property_values.specs.Paths.{parts}
use Rattle.bp_load.proofs.list_file.file_name.Goals as goal

-- the loop went over all parts of the path
pub returns : goal.returns
returns c =
    let path = c.args.path.now in
    let all = YieldsList-end (YieldsList-from_str_split 47 path (lit< tt) (cc) (cc) (cc)) c.loop-part.yielded _
    c.loop-part.yielded_by _ _ c.in-None.is c.next.ensures.steps in
    c.loop-part.invariant.1
    ∙ ap (λ ps. get_or ps (length c.loop-part.yielded - 1) []) all.0
    ∙ ap (λ n. get_or (parts path) (n - 1) []) all.1
