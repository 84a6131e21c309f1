use Rattle.bp_pipeline.proofs.SomeReplay.{some_replay}
use Rattle.bp_pipeline.proofs.laws.some_replay.Goals as goal

pub returns : goal.returns
returns c = λ mods config lines file few differ.
    some_replay c.some_step.ensures c.parts_are_short.ensures c.one_outcome.ensures c.plans_of_graphs_are_plans.ensures
    c.valid_plans_have_no_cycle.ensures mods config lines file few differ
