use Rattle.mutator_kinds.proofs.Keeping.{bottom_up_keeps}
use Rattle.mutator_kinds.proofs.laws.bottom_up_keeps.Goals as goal

pub returns : goal.returns
returns g c =
    λ mean nodes along new count valid may free differ means.
    bottom_up_keeps c.new_payloads_stay_valid.ensures c.new_payloads_keep_modules.ensures
    c.new_payloads_leave_axes_free.ensures nodes count valid may c.splits_stay_valid.ensures
    c.splits_keep_modules.ensures c.other_axes_stay_free.ensures c.outs_are_many.ensures
    c.outs_meet_their_equation.ensures c.plans_of_graphs_are_plans.ensures c.valid_plans_have_no_cycle.ensures mean
    along free differ new means
