use Rattle.std.proofs.Common.{◌≡◌, ◌≤◌, ◌++◌, drop, length, []}
use Rattle.std.specs.Prelude.{string_bytes}
use Rattle.bp_faults.specs.declared.limits.TheConstants.{LARGEST_FILE}
use Rattle.bp_format.specs.Layout.{laid, layout}
use Rattle.bp_format.specs.Ends.{pieces}
use Rattle.bp_format.proofs.layout.layout.Given as goal

abbrev pub invariant-loop-at : goal.invariant-loop-at
invariant-loop-at l = record {
  laid : layout (pieces [] l.text l.tokens)
      ≡ string_bytes l.out ++ laid l.nest.items l.before (pieces l.nest.items l.text (drop l.at l.tokens));
  short : length (string_bytes l.out) ≤ LARGEST_FILE;
}
