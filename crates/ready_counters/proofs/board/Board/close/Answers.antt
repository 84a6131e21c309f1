use Rattle.std.proofs.Common.{◌∙◌, ap, sym, subst}
use Rattle.serial_pass.specs.declared.plan.Plan.{Plan}
use Rattle.serial_pass.specs.Orders.{IsLegal, numbers}
use Rattle.ready_counters.specs.Edges.{result_at}
use Rattle.ready_counters.specs.Seen.{plan_on_board}
use Rattle.ready_counters.proofs.Closing.{is_done, are_numbered, is_legal}
use Rattle.ready_counters.proofs.Legality.{is_legal_order}
use Rattle.ready_counters.proofs.board.Board.close.Goals as goal

pub invariant_of-result : goal.invariant_of-result
invariant_of-result g c =
    let last = c.close_with.ensures.values.2 in
    subst (λ (p : Plan). IsLegal p (numbers c.args.order.items)) (sym (c.of.ensures ∙ c.requires.plan))
    (is_legal_order (plan_on_board c.args.self) c.args.self.begins (numbers c.args.order.items)
    (is_legal (plan_on_board c.args.self) c.into_table-table.result.shared.key.plan.value
    (ap (λ t. t.shared.key.plan.value) c.into_table-table.ensures)
    (λ (p : Plan). result_at
    (g.V.Visit.meaning c.into_table-table.result.shared.key.visitor.value) p) last.0 last.1.0
    c.into_inner-last.result.id c.args.seat.seat.me.0 c.into_inner-last.result.me.0 last.1.1
    (ap (λ s. s.me.0) c.into_inner-last.ensures.same)
    c.requires.all c.args.self.ends c.requires.ticketed (numbers c.args.order.items) c.requires.order))

pub returns-clause-legal : goal.returns-clause-legal
returns-clause-legal g c =
    let last = c.close_with.ensures.values.2 in
    is_legal_order (plan_on_board c.args.self) c.args.self.begins (numbers c.args.order.items)
    (is_legal (plan_on_board c.args.self) c.into_table-table.result.shared.key.plan.value
    (ap (λ t. t.shared.key.plan.value) c.into_table-table.ensures)
    (λ (p : Plan). result_at
    (g.V.Visit.meaning c.into_table-table.result.shared.key.visitor.value) p) last.0 last.1.0
    c.into_inner-last.result.id c.args.seat.seat.me.0 c.into_inner-last.result.me.0 last.1.1
    (ap (λ s. s.me.0) c.into_inner-last.ensures.same)
    c.requires.all c.args.self.ends c.requires.ticketed (numbers c.args.order.items) c.requires.order)

pub returns-clause-done : goal.returns-clause-done
returns-clause-done g c =
    let last = c.close_with.ensures.values.2 in
    is_done (plan_on_board c.args.self) c.into_table-table.result.shared.key.plan.value
    (ap (λ t. t.shared.key.plan.value) c.into_table-table.ensures)
    (λ (p : Plan). result_at
    (g.V.Visit.meaning c.into_table-table.result.shared.key.visitor.value) p) last.0 last.1.0
    c.into_inner-last.result.id c.args.seat.seat.me.0 c.into_inner-last.result.me.0 last.1.1
    (ap (λ s. s.me.0) c.into_inner-last.ensures.same)
    c.requires.all c.args.self.ends c.requires.ticketed

pub returns-clause-numbered : goal.returns-clause-numbered
returns-clause-numbered g c =
    let last = c.close_with.ensures.values.2 in
    are_numbered (plan_on_board c.args.self) c.into_table-table.result.shared.key.plan.value
    (ap (λ t. t.shared.key.plan.value) c.into_table-table.ensures)
    (λ (p : Plan). result_at
    (g.V.Visit.meaning c.into_table-table.result.shared.key.visitor.value) p) last.0 last.1.0
    c.into_inner-last.result.id c.args.seat.seat.me.0 c.into_inner-last.result.me.0 last.1.1
    (ap (λ s. s.me.0) c.into_inner-last.ensures.same)
    c.requires.all c.args.self.ends c.requires.ticketed
