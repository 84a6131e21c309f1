use Rattle.std.proofs.Common.{List, subst}
use Rattle.std.specs.List.{AllPairs}
use Rattle.std.specs.Prelude.{◌≢◌}
use Rattle.graph_nodes.specs.declared.variation.Variation.{Variation}
use Rattle.mutator_tests.specs.Transitions.{own_of}
use Rattle.mutator_tests.proofs.BareNodes.{own_differ, same_ok}
use Rattle.mutator_tests.proofs.transitions.transitioned.Goals as goal

pub run_transition-requires-clause-differ : goal.run_transition-requires-clause-differ
run_transition-requires-clause-differ g c = λ κs lives n own lt is.
    let rule = c.args.rule.now in
    subst (λ (l : List Variation). AllPairs (λ v w. v ≢ w) l) (same_ok (own_of rule.vendor rule.recovery n) own is)
    (own_differ rule.vendor rule.recovery n)
