use Rattle.bp_pipeline.specs.Mutators.{passes_of}
use Rattle.module_graph.specs.declared.direction.Direction.TheVariants.{BottomUp}
use Rattle.output_forms.proofs.Coursed.{course_kept}
use Rattle.output_forms.proofs.Told.{told, writable}
use Rattle.output_forms.proofs.laws.files_of_graphs_are_well_formed.Goals as goal

pub returns : goal.returns
returns c = λ mods config k nodes made formed targets after outs.
    let forms = course_kept mods config formed.sound (passes_of k) nodes after in
    let valid = c.graphs_are_valid.ensures mods config k nodes formed.few targets after in
    let plan = c.plans_of_graphs_are_plans.ensures nodes BottomUp valid.1 in
    let free = c.valid_plans_have_no_cycle.ensures nodes BottomUp valid.0 in
    c.files_are_well_formed.ensures mods nodes made plan free
    (told mods nodes formed forms valid.0.distinct) (writable mods nodes formed forms)
    (c.passes_make.ensures mods nodes made plan free outs)
