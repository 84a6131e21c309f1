use Rattle.graph_picture.proofs.Once.{each_module_has_one_cluster}
use Rattle.graph_picture.proofs.laws.each_module_has_one_cluster.Goals as goal

pub returns : goal.returns
returns c = each_module_has_one_cluster
