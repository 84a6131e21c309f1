use Rattle.std.proofs.Common.{◌≡◌, ◌≤◌, ◌*◌, ◌∙◌, ap, subst, sym, length, arith}
use Rattle.std.proofs.lemmas.List.{length-map}
use Rattle.bp_faults.specs.declared.ids.NodeId.{NodeId}
use Rattle.serial_pass.specs.declared.plan.Plan.{Plan}
use Rattle.serial_pass.specs.Orders.{IsLegal, numbers}
use Rattle.pass_ways.specs.Stretches.{joined_stretches, IsPlanOfStretches}
use Rattle.pass_ways.proofs.Rejoined.{shown_legal}
use Rattle.pass_ways.proofs.Told.{legal_whole}
use Rattle.pass_ways.proofs.stretches.visit_stretches.Goals as goal

pub plan_of_stretches-requires-clause-enough : goal.plan_of_stretches-requires-clause-enough
plan_of_stretches-requires-clause-enough g c =
    let many = length-map c.args.order.items (λ (n : NodeId). n.0) in
    let whole = legal_whole c.args.plan.now (numbers c.args.order.items) c.requires.legal in
    let count : c.args.plan.now.count ≡ length c.args.order.items = omega (arith, many, whole) in
    let borrowed : c.args.plan.now.count ≡ length c.deref.result.now = count ∙ ap length (sym c.deref.ensures.value) in
    subst (λ l. l ≤ c.sizes-size.result.1 * c.sizes-size.result.0) borrowed c.sizes-size.ensures.enough

pub returns-clause-shown : goal.returns-clause-shown
returns-clause-shown g c =
    let size = c.sizes-size.result.0 in
    let order = c.args.order.items in
    let receipt = c.in_ok-receipt.receipt in
    let stretches = c.in_ok-stretches.stretches in
    let planned : IsPlanOfStretches c.args.plan.now size (numbers order) stretches =
    subst (λ l. IsPlanOfStretches c.args.plan.now size (numbers l) stretches) c.deref.ensures.value
    c.in_ok-stretches.ensures in
    record {
      base = order;
      legal = c.requires.legal;
      size = size;
      positive = c.sizes-size.ensures.positive;
      fair = c.sizes-size.ensures.fair;
      planned = subst (λ (p : Plan). IsPlanOfStretches c.args.plan.now size (numbers order) p)
          (sym c.in_ok-receipt.ensures.plan) planned;
      joined =
          c.new.ensures ∙ c.in_ok-nodes.ensures
          ∙ ap (λ l. joined_stretches size l (numbers c.order.result.now)) c.deref-2.ensures.value
          ∙ ap (λ l. joined_stretches size order (numbers l)) c.order.ensures.order;
    }

pub returns-clause-legal : goal.returns-clause-legal
returns-clause-legal g c =
    let receipt = c.in_ok-receipt.receipt in
    shown_legal c.args.workers c.args.plan.now c.new.result receipt (returns-clause-shown g c)
    (subst (λ (p : Plan). IsLegal p (numbers receipt.order)) (sym c.in_ok-receipt.ensures.plan)
    c.in_ok-receipt.ensures.legal)
