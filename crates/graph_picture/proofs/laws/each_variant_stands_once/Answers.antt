use Rattle.graph_picture.proofs.Once.{each_variant_stands_once}
use Rattle.graph_picture.proofs.laws.each_variant_stands_once.Goals as goal

pub returns : goal.returns
returns c = each_variant_stands_once
