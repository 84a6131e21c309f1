use Rattle.pass_ways.proofs.Told.{legal_whole}
use Rattle.pass_ways.proofs.laws.legal_orders_are_whole.Goals as goal

pub returns : goal.returns
returns c = λ plan order legal. legal_whole plan order legal
