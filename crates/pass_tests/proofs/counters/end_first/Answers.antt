use Rattle.std.proofs.Common.{◌∙◌, sym}
use Rattle.ready_counters.specs.Seen.{plan_on_board}
use Rattle.pass_tests.proofs.Boards.{chain_first}
use Rattle.pass_tests.proofs.counters.end_first.Goals as goal

pub fill-requires-clause-value : goal.fill-requires-clause-value
fill-requires-clause-value c =
    c.in_ok-published.ensures ∙ sym (chain_first (plan_on_board c.args.board.now) c.requires.plan)
