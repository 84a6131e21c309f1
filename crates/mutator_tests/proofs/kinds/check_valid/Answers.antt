use Rattle.mutator_tests.proofs.Tested.{own_differ}
use Rattle.mutator_tests.proofs.kinds.check_valid.Goals as goal

pub returns-clause-valid : goal.returns-clause-valid
returns-clause-valid c = record {
  ends = (c.is_numbered.ensures c.if-not-is_numbered.false).ends;
  distinct = own_differ c.args.g.now.nodes c.requires.own;
  acyclic = c.in_ok-check_cycle.ensures;
}
