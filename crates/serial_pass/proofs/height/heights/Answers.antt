use Rattle.std.proofs.lemmas.Result.{IfOk-weaker}
use Rattle.serial_pass.proofs.Paths.{heights_settled}
use Rattle.serial_pass.proofs.height.heights.Goals as goal

pub returns : goal.returns
returns c =
    IfOk-weaker c.unwrapped.result _ _ (λ values same. heights_settled c.args.plan.now c.in_ok-settled.settled.items
    c.in_ok-settled.ensures.0 values.items same) c.unwrapped.ensures
