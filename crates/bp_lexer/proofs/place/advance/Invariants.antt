use Rattle.std.proofs.Common.{◌≡◌}
use Rattle.bp_lexer.specs.Places.{place_at}
use Rattle.bp_lexer.proofs.place.advance.Given as goal

abbrev pub invariant-loop-i : goal.invariant-loop-i
invariant-loop-i l = l.here ≡ place_at l.fn.place.file l.bytes l.i
