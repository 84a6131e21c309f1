use Rattle.bp_pipeline.proofs.SomeText.{text_some}
use Rattle.bp_pipeline.proofs.laws.some_text.Goals as goal

pub returns : goal.returns
returns c = λ mods config few differ.
    text_some c.some_graph.ensures.some c.some_graph.ensures.valid c.one_outcome.ensures
    c.plans_of_graphs_are_plans.ensures c.valid_plans_have_no_cycle.ensures mods config few differ
