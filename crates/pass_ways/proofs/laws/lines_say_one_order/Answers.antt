use Rattle.pass_ways.proofs.Told.{one_order}
use Rattle.pass_ways.proofs.laws.lines_say_one_order.Goals as goal

pub returns : goal.returns
returns c = λ lines before pass plan order other h l k m. one_order lines before pass plan order other h l k m
