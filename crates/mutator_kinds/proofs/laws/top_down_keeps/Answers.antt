use Rattle.mutator_kinds.proofs.Keeping.{top_down_keeps}
use Rattle.mutator_kinds.proofs.laws.top_down_keeps.Goals as goal

pub returns : goal.returns
returns g c =
    λ mean nodes new count valid may means.
    top_down_keeps c.new_payloads_stay_valid.ensures c.new_payloads_keep_modules.ensures
    c.new_payloads_leave_axes_free.ensures nodes count valid may mean new means
