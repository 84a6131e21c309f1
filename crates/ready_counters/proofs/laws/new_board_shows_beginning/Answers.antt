use Rattle.ready_counters.proofs.Refining.{shows_beginning}
use Rattle.ready_counters.proofs.laws.new_board_shows_beginning.Goals as goal

pub returns : goal.returns
returns g c = λ mean plan words is_plan first. shows_beginning mean plan words is_plan first
