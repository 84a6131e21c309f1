use Rattle.ready_counters.specs.Edges.{result_at}
use Rattle.ready_counters.specs.Seen.{plan_on_board, visitor_of}
use Rattle.ready_counters.proofs.board.Board.fill.Given as goal

abbrev pub ghosts-fill_as : goal.ghosts-fill_as
ghosts-fill_as g a = record {
  count = (plan_on_board a.self.now).count;
  edges =
      (plan_on_board a.self.now).edges;
  node = 0;
  edge = a.e;
  value =
      result_at (g.V.Visit.meaning (visitor_of a.self.now)) (plan_on_board a.self.now) a.e;
}
