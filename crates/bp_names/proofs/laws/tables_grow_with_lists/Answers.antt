use Rattle.std.proofs.Common.{◌∙◌, ap, sym, length}
use Rattle.std.specs.Option.{option_or}
use Rattle.bp_names.specs.Meaning.{number_for}
use Rattle.bp_names.proofs.Numbers.{first_number_stays}
use Rattle.bp_names.proofs.laws.tables_grow_with_lists.Goals as goal

pub returns : goal.returns
returns c names table new name first learns query =
    learns query ∙ ap (λ number. option_or number (number_for name (length names) query)) (first query)
    ∙ sym (first_number_stays names name query)
