use Rattle.serial_pass.specs.Plans.{predecessors}
use Rattle.serial_pass.proofs.Unrolled.{unroll_equation, tight, tight_rises, tight_below}
use Rattle.serial_pass.proofs.laws.recursion_meets_its_equation.Goals as goal

pub returns : goal.returns
returns g c = λ plan step base n is free lt.
    unroll_equation (predecessors plan.edges) (tight plan is.ends free)
    (tight_rises plan is.ends free) step base plan.count n (tight_below plan is.ends free n lt)
