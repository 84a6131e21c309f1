use Rattle.std.proofs.Common.{◌<◌, subst, sym, arith}
use Rattle.ready_counters.specs.Edges.{result_at}
use Rattle.ready_counters.specs.Seen.{plan_on_board, visitor_of}
use Rattle.ready_counters.proofs.Seating.{split_allows}
use Rattle.ready_counters.proofs.board.Board.split.Goals as goal

pub split_seat-other-requires : goal.split_seat-other-requires
split_seat-other-requires g c = (
  c.requires.seat,
  subst (λ k. 0 < k) (sym c.args.self.now.sized) (omega arith),
  split_allows (plan_on_board c.args.self.now).count (plan_on_board c.args.self.now).edges
      (result_at (g.V.Visit.meaning (visitor_of c.args.self.now))
      (plan_on_board c.args.self.now)) c.args.seat.now.seat.id c.args.seat.now.seat.me.0 c.requires.heavy,
)
