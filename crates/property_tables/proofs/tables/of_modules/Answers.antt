use Rattle.std.proofs.Common.{ap, ◌∙◌}
use Rattle.property_tables.specs.declared.offer.Wanted.TheVariants.{All}
use Rattle.property_tables.specs.Inside.{is_wanted}
use Rattle.property_tables.specs.Tables.{those_of}
use Rattle.property_tables.proofs.tables.of_modules.Goals as goal

pub returns : goal.returns
returns c = c.of.ensures ∙ ap (those_of (is_wanted All)) c.rows.ensures.rows
