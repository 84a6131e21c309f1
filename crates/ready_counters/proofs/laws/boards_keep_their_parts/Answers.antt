use Rattle.ready_counters.specs.Edges.{result_at}
use Rattle.ready_counters.proofs.Kept.{has_parts}
use Rattle.ready_counters.proofs.laws.boards_keep_their_parts.Goals as goal

pub returns : goal.returns
returns g c = λ mean plan s is_plan holds.
    has_parts plan.count plan.edges (result_at mean plan) s holds is_plan.few
