use Rattle.std.proofs.Common.{◌≡◌}
use Rattle.module_rules.proofs.graphs.with_own_records.Given as goal

abbrev pub invariant-loop-node : goal.invariant-loop-node
invariant-loop-node l = l.own.items ≡ l.yielded
