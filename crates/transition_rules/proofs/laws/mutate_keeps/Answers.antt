use Rattle.transition_rules.proofs.Keeping.{mutate_keeps}
use Rattle.transition_rules.proofs.laws.mutate_keeps.Goals as goal

pub returns : goal.returns
returns g c =
    λ m nodes new count valid may means.
    mutate_keeps m nodes new count valid may c.new_payloads_stay_valid.ensures c.new_payloads_keep_modules.ensures
    c.new_payloads_leave_axes_free.ensures means
