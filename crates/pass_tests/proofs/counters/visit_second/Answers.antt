use Rattle.std.proofs.Common.{◌∙◌, sym}
use Rattle.ready_counters.specs.Seen.{plan_on_board}
use Rattle.pass_tests.proofs.Boards.{chain_second}
use Rattle.pass_tests.proofs.counters.visit_second.Goals as goal

pub fill-requires-clause-value : goal.fill-requires-clause-value
fill-requires-clause-value g c =
    c.in_ok-published.ensures ∙ sym (chain_second (plan_on_board c.args.board.now) c.requires.plan)
