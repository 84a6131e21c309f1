use Rattle.std.proofs.Common.{◌≡◌, length}
use Rattle.std.specs.Prelude.{reverse}
use Rattle.bp_load.specs.Opened.{stay_open}
use Rattle.bp_load.proofs.opened.close.Given as goal

abbrev pub invariant-loop-last : goal.invariant-loop-last
invariant-loop-last l =
    stay_open l.directory (reverse l.opened.items) ≡ stay_open l.directory (reverse l.fn.opened.items)

abbrev pub decreases-loop-last : goal.decreases-loop-last
decreases-loop-last l = length l.opened.items
