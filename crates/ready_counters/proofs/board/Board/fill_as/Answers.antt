use Rattle.std.proofs.Common.{◌<◌, ◌≤◌, ◌+◌, ◌∙◌, ap, subst, sym, arith, ◌∷◌, Some, None}
use Rattle.atomic_table.specs.Table.{rest}
use Rattle.ready_counters.specs.Edges.{result_at}
use Rattle.ready_counters.specs.Seen.{plan_on_board, visitor_of}
use Rattle.ready_counters.proofs.Named.{open_as, fill_as}
use Rattle.ready_counters.proofs.board.Board.fill_as.Goals as goal

pub compare_exchange-requires : goal.compare_exchange-requires
compare_exchange-requires g c = (
  c.requires.seat,
  subst (λ k. c.args.self.now.count + c.args.e < k) (sym c.args.self.now.sized)
      (omega (arith, c.requires.edge, c.args.self.now.counted)),
  open_as (plan_on_board c.args.self.now).count (plan_on_board c.args.self.now).edges
      (result_at (g.V.Visit.meaning (visitor_of c.args.self.now))
      (plan_on_board c.args.self.now)) c.args.self.now.table.shared.table_id.slots c.args.seat.now.seat.id
      c.args.seat.now.seat.me c.args.seat.now.live c.args.e g.E.Pick.edge c.args.self.now.count c.requires.named
      c.args.self.now.counted c.requires.edge c.requires.ticket c.args.seat.now.shut c.requires.fresh,
)

pub exchange-before-requires : goal.exchange-before-requires
exchange-before-requires g c =
    let h = c.compare_exchange.ensures in
    let out = h.2.1 ∙ ap (λ k. (k, None) ∷ c.args.seat.now.seat.me.1) (sym c.requires.named) in
    (h.0 ∙ c.requires.seat, (None, out ∙ ap (λ l. (c.args.e, None) ∷ l) (sym (ap rest out))))

pub store-requires : goal.store-requires
store-requires g c =
    let h = c.compare_exchange.ensures in let i = c.exchange-before.ensures in (
      i.0 ∙ h.0 ∙ c.requires.seat,
      subst (λ k. c.args.self.now.count + c.args.e < k) (sym c.args.self.now.sized)
          (omega (arith, c.requires.edge, c.args.self.now.counted)),
      fill_as (plan_on_board c.args.self.now).count (plan_on_board c.args.self.now).edges
          (result_at (g.V.Visit.meaning (visitor_of c.args.self.now))
          (plan_on_board c.args.self.now)) c.args.self.now.table.shared.table_id.slots c.exchange-before.new.seat.id
          c.exchange-before.new.seat.me
          (subst (λ v. 1 ≤ v.weight)
          (sym (ap (λ m. m.0) i.3
          ∙ h.2.0)) c.args.seat.now.live) c.args.e g.E.Pick.edge c.args.self.now.count c.requires.named
          c.args.self.now.counted c.requires.edge
          (ap (λ m. m.0.opened) i.3 ∙ ap (λ v. v.opened) h.2.0
          ∙ ap (λ l. g.E.Pick.edge ∷ l) c.args.seat.now.shut) c.args.value
          (ap (λ m. m.1) i.3 ∙ ap (λ l. (c.args.e, Some c.args.value) ∷ l)
          (ap rest h.2.1 ∙ c.args.seat.now.free)) c.requires.value,
    )
