use Rattle.order_text.proofs.Back.{journals_are_read_back}
use Rattle.order_text.proofs.laws.journals_are_read_back.Goals as goal

pub returns : goal.returns
returns c = journals_are_read_back
