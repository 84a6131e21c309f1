use Rattle.bp_pipeline.proofs.SomeGraph.{some_graph, valid_graph}
use Rattle.bp_pipeline.proofs.laws.some_graph.Goals as goal

pub returns-clause-some : goal.returns-clause-some
returns-clause-some c = λ mods config k few differ last. some_graph c.some_step.ensures mods few config differ k

pub returns-clause-valid : goal.returns-clause-valid
returns-clause-valid c = λ mods config k nodes few differ last means.
    valid_graph c.some_step.ensures mods few config differ k nodes (c.one_graph.ensures mods config k) means
