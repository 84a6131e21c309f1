use Rattle.ready_counters.proofs.Refining.{shows_finished}
use Rattle.ready_counters.proofs.laws.done_board_shows_finished.Goals as goal

pub returns : goal.returns
returns g c = λ mean plan id v s is_plan holds here done. shows_finished mean plan is_plan s holds id v here done
