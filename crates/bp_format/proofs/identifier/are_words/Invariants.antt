use Rattle.std.proofs.Common.{◌≡◌, drop}
use Rattle.std.specs.List.{list_all}
use Rattle.bp_lexer.specs.Classes.{is_word}
use Rattle.bp_format.proofs.identifier.are_words.Given as goal

abbrev pub invariant-loop-byte : goal.invariant-loop-byte
invariant-loop-byte l = list_all is_word l.bytes ≡ list_all is_word (drop l.byte-index l.bytes)
