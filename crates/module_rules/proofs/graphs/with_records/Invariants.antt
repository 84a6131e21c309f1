use Rattle.std.proofs.Common.{◌≡◌}
use Rattle.module_rules.proofs.graphs.with_records.Given as goal

abbrev pub invariant-loop-node : goal.invariant-loop-node
invariant-loop-node l = l.made.items ≡ l.yielded
