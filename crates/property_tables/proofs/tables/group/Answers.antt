use Rattle.std.proofs.Common.{ap, ◌∙◌}
use Rattle.property_tables.specs.declared.offer.Wanted.TheVariants.{Groups}
use Rattle.property_tables.specs.Inside.{is_wanted}
use Rattle.property_tables.specs.Tables.{those_of}
use Rattle.property_tables.proofs.tables.group.Goals as goal

pub returns : goal.returns
returns c = c.of.ensures ∙ ap (those_of (is_wanted Groups)) c.rows.ensures.rows
