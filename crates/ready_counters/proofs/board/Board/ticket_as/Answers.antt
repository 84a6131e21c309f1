use Rattle.std.proofs.Common.{◌≡◌, ◌<◌, ◌+◌, length, subst, sym, arith}
use Rattle.ready_counters.specs.Edges.{result_at}
use Rattle.ready_counters.specs.Seen.{plan_on_board, visitor_of}
use Rattle.ready_counters.proofs.Named.{ticket_as, many_targets}
use Rattle.ready_counters.proofs.board.Board.ticket_as.Goals as goal

pub fetch_add-requires : goal.fetch_add-requires
fetch_add-requires g c =
    let many =
    many_targets (plan_on_board c.args.self.now).edges c.args.self.now.targets.items c.args.self.now.targeted in
    let word : c.args.self.now.count + c.len.result ≡ (plan_on_board c.args.self.now).count + length
    (plan_on_board c.args.self.now).edges = omega (arith, c.len.ensures, c.args.self.now.counted) in (
      c.requires.seat,
      subst (λ k. c.args.self.now.count + c.len.result < k) (sym c.args.self.now.sized) (omega arith),
      ticket_as (plan_on_board c.args.self.now).count (plan_on_board c.args.self.now).edges
          (result_at (g.V.Visit.meaning (visitor_of c.args.self.now))
          (plan_on_board c.args.self.now)) c.args.self.now.table.shared.table_id.slots c.args.seat.now.seat.id
          c.args.seat.now.seat.me c.args.seat.now.live g.E.Pick.count c.args.n g.E.Pick.node
          (c.args.self.now.count + c.len.result) c.requires.count c.requires.named word c.args.self.now.small
          c.requires.node c.requires.claimed c.requires.ready c.requires.fresh,
    )
