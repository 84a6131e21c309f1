use Rattle.std.proofs.Common.{◌<◌, ◌≤◌, ◌+◌, ◌∙◌, ap, subst, sym, arith, ◌∷◌, Some, None}
use Rattle.atomic_table.specs.Table.{rest}
use Rattle.ready_counters.specs.Edges.{result_at}
use Rattle.ready_counters.specs.Views.{times}
use Rattle.ready_counters.specs.Seen.{plan_on_board, visitor_of}
use Rattle.ready_counters.proofs.Sums.{times_here}
use Rattle.ready_counters.proofs.Named.{fetch_as, return_as}
use Rattle.ready_counters.proofs.board.Board.fetch_as.Goals as goal

pub compare_exchange-requires : goal.compare_exchange-requires
compare_exchange-requires g c = (
  c.requires.seat,
  subst (λ k. c.args.self.now.count + c.args.e < k) (sym c.args.self.now.sized)
      (omega (arith, c.requires.edge, c.args.self.now.counted)),
  fetch_as (plan_on_board c.args.self.now).count (plan_on_board c.args.self.now).edges
      (result_at (g.V.Visit.meaning (visitor_of c.args.self.now))
      (plan_on_board c.args.self.now)) c.args.self.now.table.shared.table_id.slots c.args.seat.now.seat.id
      c.args.seat.now.seat.me c.args.seat.now.live c.args.e g.E.Pick.edge c.args.self.now.count g.E.Pick.value
      c.requires.named c.args.self.now.counted c.requires.value
      c.requires.edge (c.args.self.now.ends c.args.e c.requires.edge) c.requires.claimed c.requires.fresh,
)

pub exchange-full-requires : goal.exchange-full-requires
exchange-full-requires g c =
    let h = c.compare_exchange.ensures in let t = h.2.1 in
    let out = t.1 ∙ ap (λ k. (k, Some t.0) ∷ c.args.seat.now.seat.me.1) (sym c.requires.named) in
    (h.0 ∙ c.requires.seat, (Some t.0, out ∙ ap (λ l. (c.args.e, Some t.0) ∷ l) (sym (ap rest out))))

pub load-requires : goal.load-requires
load-requires g c =
    let h = c.compare_exchange.ensures in let i = c.exchange-full.ensures in let t = h.2.1 in
    let n : 1 ≤ times c.args.e (c.args.e ∷ c.args.seat.now.seat.me.0.fetched) =
    omega (arith, times_here c.args.e c.args.seat.now.seat.me.0.fetched) in
    let view = ap (λ m. m.0) i.3 ∙ h.2.0 in (
      i.0 ∙ h.0 ∙ c.requires.seat,
      subst (λ k. c.args.self.now.count + c.args.e < k) (sym c.args.self.now.sized)
          (omega (arith, c.requires.edge, c.args.self.now.counted)),
      return_as (plan_on_board c.args.self.now).count (plan_on_board c.args.self.now).edges
          (result_at (g.V.Visit.meaning (visitor_of c.args.self.now))
          (plan_on_board c.args.self.now)) c.args.self.now.table.shared.table_id.slots c.exchange-full.new.seat.id
          c.exchange-full.new.seat.me
          (subst (λ v. 1 ≤ v.weight)
          (sym view) c.args.seat.now.live) c.args.e c.args.self.now.count c.args.self.now.counted c.requires.edge
          (subst (λ v. 1 ≤ times c.args.e v.fetched) (sym view)
          (subst (λ k. 1 ≤ times c.args.e (k ∷ c.args.seat.now.seat.me.0.fetched)) c.requires.named n)) None
          (ap (λ m. m.1) i.3 ∙ ap (λ l. (c.args.e, None) ∷ l) (ap rest t.1 ∙ c.args.seat.now.free)),
    )
