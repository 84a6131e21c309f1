use Rattle.transition_rules.proofs.Keeping.{wants_keep}
use Rattle.transition_rules.proofs.laws.wants_keep.Goals as goal

pub returns : goal.returns
returns g c =
    λ m nodes new count valid may free differ means.
    wants_keep m nodes new count valid may c.wants_split.ensures c.splits_stay_valid.ensures
    c.splits_keep_modules.ensures c.other_axes_stay_free.ensures free differ means
