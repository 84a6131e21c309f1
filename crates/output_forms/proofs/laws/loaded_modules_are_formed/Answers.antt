use Rattle.output_forms.proofs.Loaded.{loaded_formed}
use Rattle.output_forms.proofs.laws.loaded_modules_are_formed.Goals as goal

pub returns : goal.returns
returns c = loaded_formed
