use Rattle.std.proofs.Common.{◌∙◌, sym}
use Rattle.ready_counters.specs.Seen.{plan_on_board}
use Rattle.pass_tests.proofs.Boards.{pair_first, pair_second}
use Rattle.pass_tests.proofs.counters.core_and_board.Goals as goal

pub fill-requires-clause-value : goal.fill-requires-clause-value
fill-requires-clause-value g c =
    c.in_ok-published.ensures
    ∙ sym (pair_first (plan_on_board c.in_ok-board.board) (c.in_ok-board.ensures.plan ∙ c.in_ok-plan.ensures.plan))

pub fill-requires-2-clause-value : goal.fill-requires-2-clause-value
fill-requires-2-clause-value g c =
    c.in_ok-published-2.ensures
    ∙ sym (pair_second (plan_on_board c.in_ok-board.board) (c.in_ok-board.ensures.plan ∙ c.in_ok-plan.ensures.plan))
