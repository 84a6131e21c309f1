use Rattle.graph_nodes.proofs.PlainNames.{plain_name}
use Rattle.graph_nodes.proofs.laws.variant_names_are_plain.Goals as goal

pub returns : goal.returns
returns c = λ variations. plain_name variations
