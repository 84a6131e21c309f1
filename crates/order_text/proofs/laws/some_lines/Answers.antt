use Rattle.order_text.proofs.Some.{some_lines}
use Rattle.order_text.proofs.laws.some_lines.Goals as goal

pub returns : goal.returns
returns c = some_lines
