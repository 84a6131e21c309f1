use Rattle.bp_pipeline.specs.Mutators.{passes_of}
use Rattle.output_forms.proofs.Coursed.{course_kept}
use Rattle.output_forms.proofs.laws.graphs_have_forms.Goals as goal

pub returns : goal.returns
returns c = λ mods config k nodes sound after. course_kept mods config sound (passes_of k) nodes after
