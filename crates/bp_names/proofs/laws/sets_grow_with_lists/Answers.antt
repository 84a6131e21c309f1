use Rattle.std.proofs.Common.{◌∙◌, ap, sym, true, cond}
use Rattle.std.specs.Str.{bytes_eq}
use Rattle.bp_names.proofs.Numbers.{knows_more}
use Rattle.bp_names.proofs.laws.sets_grow_with_lists.Goals as goal

pub returns : goal.returns
returns c names set new name same learns query =
    learns query ∙ ap (cond (bytes_eq name query) true) (same query) ∙ sym (knows_more names name query)
