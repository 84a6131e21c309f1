use Rattle.bp_pipeline.specs.Mutators.{passes_of}
use Rattle.bp_pipeline.proofs.Earlier.{course_back, passes_rise}
use Rattle.bp_pipeline.proofs.laws.earlier_graphs.Goals as goal

pub returns : goal.returns
returns c = λ mods config j k nodes le means.
    course_back mods config (passes_of k) (passes_of j) nodes (passes_rise j k le) means
