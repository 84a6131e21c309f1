use Rattle.std.proofs.Common.{◌∙◌}
use Rattle.bp_values.proofs.Index.{first_index}
use Rattle.bp_values.proofs.sums.index.Goals as goal

pub returns : goal.returns
returns c = record { indices = λ q. c.in_ok-table.ensures q ∙ first_index c.args.entries.now q }
