use Rattle.std.proofs.Common.{◌≡◌, ◌<◌, subst, sym, arith, ◌∙◌}
use Rattle.ready_counters.specs.Edges.{result_at, edge_target}
use Rattle.ready_counters.specs.Seen.{plan_on_board, visitor_of}
use Rattle.ready_counters.proofs.Named.{subtract_as, target_is}
use Rattle.ready_counters.proofs.board.Board.subtract_as.Goals as goal

pub fetch_sub-requires : goal.fetch_sub-requires
fetch_sub-requires g c =
    let target : c.index-target.result.now ≡ edge_target (plan_on_board c.args.self.now).edges c.args.e =
    c.index-target.ensures
    ∙ target_is (plan_on_board c.args.self.now).edges c.args.self.now.targets.items c.args.e c.index-target.result.now
    c.args.self.now.targeted c.requires.edge in
    let node = c.args.self.now.ends c.args.e c.requires.edge in (
      c.requires.seat,
      subst (λ k. c.index-target.result.now < k) (sym c.args.self.now.sized) (omega arith),
      subtract_as (plan_on_board c.args.self.now).count (plan_on_board c.args.self.now).edges
          (result_at (g.V.Visit.meaning (visitor_of c.args.self.now))
          (plan_on_board c.args.self.now)) c.args.self.now.table.shared.table_id.slots c.args.seat.now.seat.id
          c.args.seat.now.seat.me c.args.seat.now.live g.E.Pick.edges c.args.e g.E.Pick.edge
          c.index-target.result.now c.requires.edges c.requires.named target
          c.requires.edge node c.requires.filled c.requires.fresh,
    )
