use Rattle.transition_rules.specs.Spelled.{is_spelled_before}
use Rattle.std.proofs.Common.{◌≡◌, false, []}
use Rattle.bp_faults.proofs.Lists.{pairs_apart}
use Rattle.transition_rules.specs.Wants.{others_of}
use Rattle.transition_rules.proofs.BySpelling.{all_stand}
use Rattle.transition_rules.proofs.laws.others_stand_by_spelling.Goals as goal

pub returns : goal.returns
returns c = λ own ws. pairs_apart (λ v w. is_spelled_before w v ≡ false) (others_of own ws) (all_stand own [] ws (tt))
