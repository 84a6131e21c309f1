use Rattle.std.proofs.Common.{◌∙◌}
use Rattle.property_values.proofs.Sources.{no_colon}
use Rattle.property_values.proofs.list_items.source.Goals as goal

pub returns-in-None : goal.returns-in-None
unfolding lib.Utf8.encode
returns-in-None c =
    rw (no_colon c.args.dir.now c.args.item.now c.args.item.now.text
    (λ rest is. c.in-None.ensures.cases rest (c.as_str.ensures ∙ is))) c.source_path.ensures
