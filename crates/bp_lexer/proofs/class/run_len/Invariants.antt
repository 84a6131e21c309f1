use Rattle.std.proofs.Common.{length, ◌-◌, ◌≡◌, ◌+◌, ◌<◌, ◌≤◌, ℕ, true, get_or, drop}
use Rattle.bp_lexer.specs.Classes.{in_class}
use Rattle.bp_lexer.proofs.class.run_len.Given as goal

abbrev pub invariant-loop-count : goal.invariant-loop-count
invariant-loop-count l = record {
  in_range : l.from + l.count ≤ length l.bytes;
  passes : (k : ℕ) → k < l.count → in_class l.class (get_or (drop l.from l.bytes) k 0) ≡ true;
}

abbrev pub decreases-loop-count : goal.decreases-loop-count
decreases-loop-count l = length l.bytes - (l.from + l.count)
