use Rattle.std.proofs.Common.{length, ◌-◌, ◌≡◌, ◌≤◌}
use Rattle.bp_lexer.specs.Places.{place_at}
use Rattle.bp_lexer.specs.Meaning.{Covers}
use Rattle.bp_lexer.proofs.lex.tokens.Given as goal

abbrev pub invariant-loop-at : goal.invariant-loop-at
invariant-loop-at l = record {
  within : l.at ≤ length l.bytes;
  covered : Covers l.file l.bytes 0 l.at l.tokens.items;
  here : l.place ≡ place_at l.file l.bytes l.at;
}

abbrev pub decreases-loop-at : goal.decreases-loop-at
decreases-loop-at l = length l.bytes - l.at
