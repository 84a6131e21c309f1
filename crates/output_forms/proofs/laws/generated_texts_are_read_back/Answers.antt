use Rattle.output_forms.proofs.Generating.{texts_read}
use Rattle.output_forms.proofs.laws.generated_texts_are_read_back.Goals as goal

pub returns : goal.returns
returns c = texts_read c.generated_files_are_well_formed.ensures c.what_was_written_is_read_back.ensures
