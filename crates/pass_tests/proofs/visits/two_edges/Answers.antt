use Rattle.std.proofs.Common.{◌∙◌, sym, subst, arith}
use Rattle.serial_pass.specs.Plans.{HasNoCycle}
use Rattle.pass_tests.proofs.visits.two_edges.Goals as goal

pub returns-clause-free : goal.returns-clause-free
returns-clause-free c =
    subst (λ es. HasNoCycle es) (sym (c.new.ensures ∙ c.in_ok-from_array.ensures.items))
    (record { rank = λ n. n; rises = (omega arith, (omega arith, tt)) })
