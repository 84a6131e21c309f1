use Rattle.std.proofs.Common.{◌∙◌, ◌-◌, ◌+◌, ◌*◌, List, sym, subst, arith}
use Rattle.serial_pass.specs.declared.plan.PlanEdge.{PlanEdge}
use Rattle.serial_pass.specs.Plans.{HasNoCycle}
use Rattle.pass_tests.proofs.ways.both_ways.Goals as goal

pub returns-clause-free : goal.returns-clause-free
returns-clause-free c =
    subst (λ (es : List PlanEdge). HasNoCycle es) (sym (c.new.ensures ∙ c.in_ok-from_array.ensures.items))
    (record { rank = λ n. (5 - n) + 10 * (n - 3); rises = (omega arith, (omega arith, tt)) })
