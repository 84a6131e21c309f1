use Rattle.std.proofs.Common.{rules, ◌∙◌, ap, sym, cond, Some}
use Rattle.std.proofs.lemmas.Map.Text.{is_eq-slice_cmp}
use Rattle.std.specs.Str.{bytes_eq}
use Rattle.bp_names.specs.Meaning.{number_of}
use Rattle.bp_names.proofs.Keys.{key, number_here}
use Rattle.bp_names.proofs.Numbers.{settled, was_none}
use Rattle.bp_names.proofs.table.NameTable.learn.Goals as goal

pub returns-in_ok-insert-clause-known : goal.returns-in_ok-insert-clause-known
returns-in_ok-insert-clause-known c query =
    settled c.args.self.now c.args.name.now c.args.number query _
    (sym c.number_of-had.ensures
    ∙ was_none c.number_of-had.result (search (rules, c.is_none.ensures, c.if-is_none.true)))
    (sym (number_here query c.insert.new.self.entries) ∙ c.in_ok-insert.ensures.updates.0 (key query)
    ∙ (λ i. cond (is_eq-slice_cmp c.args.name.now query i) (Some c.args.number)
    (number_here query c.self.inside.numbers.entries i))
    ∙ ap (λ pairs. cond (bytes_eq c.args.name.now query) (Some c.args.number) (number_of pairs query)) c.self.view_is)
