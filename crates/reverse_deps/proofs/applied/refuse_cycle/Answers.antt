use Rattle.std.proofs.Common.{◌∙◌, subst}
use Rattle.bp_faults.specs.Answers.{Tells}
use Rattle.module_graph.specs.Cycles.{CycleMeans}
use Rattle.reverse_deps.proofs.applied.refuse_cycle.Goals as goal

pub returns-in_ok-labels-in-Err-Bad : goal.returns-in_ok-labels-in-Err-Bad
returns-in_ok-labels-in-Err-Bad g c =
    subst (λ labels. Tells {T = Unit} (λ (done : Unit). done) (CycleMeans c.args.g.now.nodes labels)
    c.check_cycle-in-Err-Bad.result)
    (c.deref.ensures.value ∙ c.in_ok-labels-in-Err-Bad.ensures) c.check_cycle-in-Err-Bad.ensures
