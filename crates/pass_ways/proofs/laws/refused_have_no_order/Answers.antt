use Rattle.pass_ways.proofs.Told.{no_order}
use Rattle.pass_ways.proofs.laws.refused_have_no_order.Goals as goal

pub returns : goal.returns
returns c = λ lines file before pass plan fault order refused h legal. no_order lines before pass file plan fault order
    refused h legal
