use Rattle.ready_counters.specs.Edges.{result_at}
use Rattle.ready_counters.specs.Seen.{plan_on_board, visitor_of}
use Rattle.ready_counters.proofs.board.Board.ticket.Given as goal

abbrev pub ghosts-ticket_as : goal.ghosts-ticket_as
ghosts-ticket_as g a =
    record {
      count = (plan_on_board a.self.now).count;
      edges =
          (plan_on_board a.self.now).edges;
      node = a.n;
      edge = 0;
      value =
          result_at (g.V.Visit.meaning (visitor_of a.self.now)) (plan_on_board a.self.now) 0;
    }
