use Rattle.std.proofs.Common.{◌≡◌, ◌≤◌, take}
use Rattle.std.specs.List.{count_by}
use Rattle.bp_lexer.specs.Places.{begins_char}
use Rattle.bp_lexer.proofs.place.char_count.Given as goal

abbrev pub invariant-loop-byte : goal.invariant-loop-byte
invariant-loop-byte l = record {
  counted : l.count ≡ count_by begins_char (take l.byte-index l.bytes);
  few : l.count ≤ l.byte-index;
}
