use Rattle.std.proofs.Common.{◌<◌, subst, sym, arith}
use Rattle.ready_counters.specs.Edges.{result_at}
use Rattle.ready_counters.specs.Seen.{plan_on_board, visitor_of}
use Rattle.ready_counters.proofs.Named.{claim_as}
use Rattle.ready_counters.proofs.board.Board.claim_as.Goals as goal

pub compare_exchange-requires : goal.compare_exchange-requires
compare_exchange-requires g c = (
  c.requires.seat,
  subst (λ k. c.args.n < k) (sym c.args.self.now.sized) (omega (arith, c.requires.node)),
  claim_as (plan_on_board c.args.self.now).count (plan_on_board c.args.self.now).edges
      (result_at (g.V.Visit.meaning (visitor_of c.args.self.now))
      (plan_on_board c.args.self.now)) c.args.self.now.table.shared.table_id.slots c.args.seat.now.seat.id
      c.args.seat.now.seat.me c.args.seat.now.live g.E.Pick.edges c.args.n g.E.Pick.node c.requires.edges
      c.requires.named c.args.self.now.few c.requires.node,
)
