use Rattle.output_forms.proofs.Generating.{files_formed}
use Rattle.output_forms.proofs.laws.generated_files_are_well_formed.Goals as goal

pub returns : goal.returns
returns c = files_formed c.files_of_graphs_are_well_formed.ensures
