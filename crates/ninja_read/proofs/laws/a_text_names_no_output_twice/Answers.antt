use Rattle.ninja_read.proofs.OutsDiffer.{outs_differ}
use Rattle.ninja_read.proofs.laws.a_text_names_no_output_twice.Goals as goal

pub returns : goal.returns
returns c = outs_differ
