use Rattle.order_text.proofs.One.{one_lines}
use Rattle.order_text.proofs.laws.one_lines.Goals as goal

pub returns : goal.returns
returns c = one_lines
