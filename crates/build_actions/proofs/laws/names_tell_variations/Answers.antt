use Rattle.build_actions.proofs.Variants.{told_by_name}
use Rattle.build_actions.proofs.laws.names_tell_variations.Goals as goal

pub returns : goal.returns
returns c = told_by_name
