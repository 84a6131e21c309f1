use Rattle.std.proofs.Common.{◌∙◌, ap, sym}
use Rattle.std.specs.Option.{option_or}
use Rattle.bp_names.specs.Meaning.{number_for}
use Rattle.bp_names.proofs.Numbers.{one_more_value}
use Rattle.bp_names.proofs.table.NameTable.of.Goals as goal

pub loop-number-preserved : goal.loop-number-preserved
loop-number-preserved g c query =
    c.in_ok-learn.ensures.known query
    ∙ ap (λ first. option_or first (number_for c.name.result.now c.loop-number.number query))
    (c.loop-number.invariant query)
    ∙ sym (one_more_value g.T.Named.name c.args.values.now c.loop-number.number c.index-values-number.result
    c.name.result.now query c.loop-number-test.true c.index-values-number.is c.name.ensures)
