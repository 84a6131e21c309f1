use Rattle.bp_load.proofs.Evaluated.{order_front, order_back}
use Rattle.bp_load.proofs.evaluating.in_two.Goals as goal

pub returns-clause-front_order : goal.returns-clause-front_order
returns-clause-front_order c =
    let cut = c.in_ok-back.ensures in
    order_front c.args.files.items c.split_off.new.self.items c.in_ok-back.back.items c.args.at cut.items cut.tail
    c.requires.order

pub returns-clause-back_order : goal.returns-clause-back_order
returns-clause-back_order c =
    let cut = c.in_ok-back.ensures in
    order_back c.args.files.items c.split_off.new.self.items c.in_ok-back.back.items c.args.at cut.items cut.tail
    c.requires.order
