use Rattle.graph_picture.proofs.Once.{each_edge_is_shown_once}
use Rattle.graph_picture.proofs.laws.each_edge_is_shown_once.Goals as goal

pub returns : goal.returns
returns c = each_edge_is_shown_once
