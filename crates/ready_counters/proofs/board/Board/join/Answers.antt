use Rattle.std.proofs.Common.{◌<◌, ap, ◌∙◌, subst, sym, arith}
use Rattle.ready_counters.specs.Edges.{result_at}
use Rattle.ready_counters.specs.Seen.{plan_on_board, visitor_of}
use Rattle.ready_counters.proofs.Seating.{join_allows}
use Rattle.ready_counters.proofs.Differing.{differ_allows}
use Rattle.ready_counters.proofs.board.Board.join.Goals as goal

pub join_seat-requires : goal.join_seat-requires
join_seat-requires g c =
    let same = c.into_inner-theirs.ensures.same in (
      c.requires.seat,
      ap (λ s. s.table_id) same ∙ c.requires.other,
      c.into_inner-theirs.ensures.free,
      subst (λ k. 0 < k) (sym c.args.self.now.sized) (omega arith),
      join_allows (plan_on_board c.args.self.now).count (plan_on_board c.args.self.now).edges
          (result_at (g.V.Visit.meaning (visitor_of c.args.self.now))
          (plan_on_board c.args.self.now)) c.args.seat.now.seat.id c.args.seat.now.seat.me.0
          c.into_inner-theirs.result.id
          c.into_inner-theirs.result.me.0 c.args.seat.now.live,
    )

pub load-requires : goal.load-requires
load-requires g c = (
  c.join_seat.ensures.0 ∙ c.requires.seat,
  subst (λ k. 0 < k) (sym c.args.self.now.sized) (omega arith),
  differ_allows (plan_on_board c.args.self.now).count (plan_on_board c.args.self.now).edges
      (result_at (g.V.Visit.meaning (visitor_of c.args.self.now))
      (plan_on_board c.args.self.now)) c.args.self.now.table.shared.table_id.slots c.join_seat.new.seat.id 0
      c.join_seat.new.seat.me,
)
