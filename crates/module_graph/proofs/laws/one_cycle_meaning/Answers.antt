use Rattle.module_graph.proofs.OneCycle.{means_unique}
use Rattle.module_graph.proofs.SomeCycle.{meaning_of}
use Rattle.module_graph.proofs.laws.one_cycle_meaning.Goals as goal

pub returns : goal.returns
returns g c =
    λ nodes names ends. let said = meaning_of nodes ends names in
    (said.0, said.1, λ other means. means_unique nodes names said.0 other said.1 means)
