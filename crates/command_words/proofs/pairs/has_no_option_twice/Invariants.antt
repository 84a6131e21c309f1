use Rattle.std.proofs.Common.{◌≡◌, [], take, drop}
use Rattle.command_words.specs.Once.{has_none_twice}
use Rattle.command_words.specs.Words.{is_same_option}
use Rattle.command_words.proofs.pairs.has_no_option_twice.Given as goal

abbrev pub invariant-loop-i : goal.invariant-loop-i
invariant-loop-i l =
    has_none_twice is_same_option [] l.pairs ≡ has_none_twice is_same_option (take l.i l.pairs) (drop l.i l.pairs)
