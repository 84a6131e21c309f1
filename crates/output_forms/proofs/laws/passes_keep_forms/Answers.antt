use Rattle.bp_pipeline.specs.Passes.{pass_at}
use Rattle.output_forms.proofs.Coursed.{step_kept}
use Rattle.output_forms.proofs.laws.passes_keep_forms.Goals as goal

pub returns : goal.returns
returns c = λ mods config p nodes new forms means. step_kept mods config (pass_at p) nodes forms new means
