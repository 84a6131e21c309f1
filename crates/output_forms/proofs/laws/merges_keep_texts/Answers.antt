use Rattle.output_forms.proofs.Records.{appended, followed, over, restricted}
use Rattle.output_forms.proofs.laws.merges_keep_texts.Goals as goal

pub returns : goal.returns
returns c = record { appended = appended; followed = followed; over = over; restricted = restricted }
