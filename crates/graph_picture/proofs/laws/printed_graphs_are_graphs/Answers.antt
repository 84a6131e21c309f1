use Rattle.graph_picture.proofs.Printed.{printed_graphs_are_graphs}
use Rattle.graph_picture.proofs.laws.printed_graphs_are_graphs.Goals as goal

pub returns : goal.returns
returns g c = printed_graphs_are_graphs c.variant_names_are_plain.ensures
