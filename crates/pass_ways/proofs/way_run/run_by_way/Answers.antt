use Rattle.std.proofs.Common.{◌++◌, subst, sym}
use Rattle.serial_pass.specs.Orders.{IsLegal}
use Rattle.pass_ways.specs.Visits.{visits}
use Rattle.pass_ways.specs.Ways.{Follows, RefusesPass}
use Rattle.pass_ways.proofs.ByWay.{answers_by_way}
use Rattle.pass_ways.proofs.Numbered.{nodes_numbered, numbers-nodes_numbered}
use Rattle.pass_ways.proofs.way_run.run_by_way.Goals as goal

pub returns-in-Err-At : goal.returns-in-Err-At
returns-in-Err-At g c =
    let plan = c.args.plan.now in
    let at = rw c.in-Err-At.field-0-is at c.in-Err-At.ensures in
    let serial = c.one_serial_order.ensures plan c.requires.plan c.requires.free in
    let order = nodes_numbered serial.0 in
    let legal = c.serial_order_is_legal.ensures plan serial.0 c.requires.plan c.requires.free serial.1 in (
      at,
      (
        order,
        (
          subst (IsLegal plan) (sym (numbers-nodes_numbered serial.0)) legal,
          subst (λ w. Follows w (c.args.before.now
              ++ visits c.args.pass order)) (sym c.in-Workers.is) tt,
        ),
      ),
    )

pub returns-then-workers-eq1 : goal.returns-then-workers-eq1
returns-then-workers-eq1 g c =
    let plan = c.args.plan.now in
    let serial = c.one_serial_order.ensures plan c.requires.plan c.requires.free in
    let legal = c.serial_order_is_legal.ensures plan serial.0 c.requires.plan c.requires.free serial.1 in
    answers_by_way (Follows c.args.way.now) (RefusesPass c.args.way.now) _ plan c.args.pass c.args.before.now _
    (λ made. subst (λ w. Follows w made) (sym c.in-Workers.is) tt)
    (nodes_numbered serial.0, subst (IsLegal plan) (sym (numbers-nodes_numbered serial.0)) legal)
    c.run_alone.ensures
