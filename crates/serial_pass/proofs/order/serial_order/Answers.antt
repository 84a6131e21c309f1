use Rattle.std.proofs.Common.{◌∙◌, ap, sym, subst, map, IsPermutation}
use Rattle.std.proofs.lemmas.Result.{IfOk-weaker}
use Rattle.serial_pass.specs.Orders.{IsSerial, numbers}
use Rattle.serial_pass.proofs.Ranked.{ranked_serial}
use Rattle.serial_pass.proofs.order.serial_order.Goals as goal

pub returns : goal.returns
returns c = IfOk-weaker c.nodes_of.result _ _
    (λ order same. subst (λ ns. IsSerial c.args.plan.now (numbers ns))
    (sym (same ∙ ap (λ rs. map (λ r. r.1) rs) c.deref.ensures.value))
    (ranked_serial c.args.plan.now c.sort_unstable.new.self.items
    (subst (λ rs. IsPermutation rs c.sort_unstable.new.self.items) c.in_ok-ranked.ensures
    c.sort_unstable.ensures.permutation) c.sort_unstable.ensures.sorted))
    c.nodes_of.ensures
