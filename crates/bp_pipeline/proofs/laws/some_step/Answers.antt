use Rattle.bp_pipeline.proofs.SomeStep.{step_some}
use Rattle.bp_pipeline.proofs.laws.some_step.Goals as goal

pub returns : goal.returns
returns c = λ mods config p nodes differ ready.
    step_some c.some_bottom_up_outcome.ensures c.bottom_up_keeps.ensures c.some_outcome.ensures c.applied_keeps.ensures
    c.outs_are_many.ensures mods nodes ready.0 c.some_top_down_outcome.ensures c.top_down_keeps.ensures
    c.some_wants_outcome.ensures c.wants_keep.ensures c.some_mutate_outcome.ensures c.mutate_keeps.ensures
    c.target_variants_differ.ensures c.image_variants_differ.ensures c.link_variants_differ.ensures
    c.source_variants_differ.ensures c.own_variations_differ.ensures config differ p ready.1
