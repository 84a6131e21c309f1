use Rattle.std.proofs.Common.{◌∙◌, ◌++◌, ◌∷◌, [], List, sym, subst, arith}
use Rattle.serial_pass.specs.declared.plan.PlanEdge.{PlanEdge}
use Rattle.serial_pass.specs.Plans.{HasNoCycle}
use Rattle.pass_tests.proofs.ways.two_nodes.Goals as goal

abbrev only : PlanEdge
only = record { from = record { 0 = 0 }; to = record { 0 = 1 } }

pub returns-clause-free : goal.returns-clause-free
returns-clause-free c =
    subst (λ (es : List PlanEdge). HasNoCycle es) (sym (c.new.ensures ∙ c.in_ok-push.ensures.items))
    (subst (λ (es : List PlanEdge). HasNoCycle (es ++ only ∷ [])) (sym c.new-edges.ensures.items)
    (record { rank = λ n. n; rises = (omega arith, tt) }))
