use Rattle.ready_counters.specs.Edges.{result_at}
use Rattle.ready_counters.specs.Seen.{plan_on_board, visitor_of}
use Rattle.ready_counters.proofs.board.Board.claim.Given as goal

abbrev pub ghosts-claim_as : goal.ghosts-claim_as
ghosts-claim_as g a =
    record {
      count = (plan_on_board a.self.now).count;
      edges =
          (plan_on_board a.self.now).edges;
      node = a.n;
      edge = 0;
      value =
          result_at (g.V.Visit.meaning (visitor_of a.self.now)) (plan_on_board a.self.now) 0;
    }
