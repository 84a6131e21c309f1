use Rattle.std.proofs.Common.{◌∙◌, ap}
use Rattle.bp_names.specs.Meaning.{number_of}
use Rattle.bp_names.proofs.Keys.{number_here}
use Rattle.bp_names.proofs.table.NameTable.number_of.Goals as goal

pub returns : goal.returns
returns c =
    c.copied.ensures ∙ c.get.ensures.value ∙ number_here c.args.name.now c.self.inside.numbers.entries
    ∙ ap (λ pairs. number_of pairs c.args.name.now) c.self.view_is
