use Rattle.std.proofs.Common.{◌∙◌, sym}
use Rattle.pass_core.proofs.Sound.{reached_sound, reached_entries}
use Rattle.pass_core.proofs.Progress.{entries_when_finished, finished_with_entries}
use Rattle.pass_core.proofs.laws.finished_by_count.Goals as goal

pub returns : goal.returns
returns g c = λ mean plan steps s is free reached.
    let sound = reached_sound mean plan is free c.results_meet_their_equation.ensures steps s reached in
    let many = reached_entries mean plan is free c.results_meet_their_equation.ensures steps s reached in (
      (λ done. sym many ∙ entries_when_finished mean plan is free s sound done),
      λ count. finished_with_entries mean plan is free s sound (many ∙ count),
    )
