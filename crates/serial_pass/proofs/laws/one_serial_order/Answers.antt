use Rattle.serial_pass.proofs.Sorted.{the_order, the_order_is_serial, one_order}
use Rattle.serial_pass.proofs.laws.one_serial_order.Goals as goal

pub returns : goal.returns
returns c =
    λ plan is free. (
      the_order plan,
      the_order_is_serial plan,
      λ other serial. one_order plan other (the_order plan) serial (the_order_is_serial plan),
    )
