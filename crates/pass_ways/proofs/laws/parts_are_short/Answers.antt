use Rattle.pass_ways.proofs.Parts.{part_fewer}
use Rattle.pass_ways.proofs.laws.parts_are_short.Goals as goal

pub returns : goal.returns
returns c = λ plan order part. part_fewer plan order part
