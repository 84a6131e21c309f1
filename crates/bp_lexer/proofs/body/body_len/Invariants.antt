use Rattle.std.proofs.Common.{length, ◌-◌, ◌≡◌, ◌≤◌, ℕ, true, false, take}
use Rattle.bp_lexer.specs.Classes.{in_line}
use Rattle.bp_lexer.specs.Strings.{IsClosedAt, is_body}
use Rattle.bp_lexer.specs.Search.{KnowsBadEscape}
use Rattle.bp_lexer.proofs.body.body_len.Given as goal

abbrev pub invariant-loop-n : goal.invariant-loop-n
invariant-loop-n l = record {
  within : l.n ≤ length l.rest;
  rough : is_body in_line false (take l.n l.rest) ≡ true;
  least : (m : ℕ) → IsClosedAt in_line l.rest m → l.n ≤ m;
  escapes : KnowsBadEscape l.rest l.n l.bad;
}

abbrev pub decreases-loop-n : goal.decreases-loop-n
decreases-loop-n l = length l.rest - l.n
