use Rattle.std.proofs.Common.{◌≡◌, ◌≤◌, ◌+◌, map}
use Rattle.std.specs.List.{range_with_len}
use Rattle.bp_faults.specs.declared.limits.TheConstants.{MOST_NODES}
use Rattle.variant_graphs.specs.Inside.{before}
use Rattle.variant_graphs.proofs.limits.begin.Given as goal

abbrev pub invariant-loop-n : goal.invariant-loop-n
invariant-loop-n g l = record {
  total : l.total ≡ before l.counts l.n;
  few : l.total ≤ MOST_NODES;
  begins : l.begins.items ≡ map (before l.counts) (range_with_len 0 (l.n + 1));
}
