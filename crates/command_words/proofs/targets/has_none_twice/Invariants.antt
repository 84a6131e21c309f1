use Rattle.std.proofs.Common.{◌≡◌, [], take, drop}
use Rattle.command_words.specs.Once.{has_none_twice}
use Rattle.command_words.specs.Values.{is_same_target}
use Rattle.command_words.proofs.targets.has_none_twice.Given as goal

abbrev pub invariant-loop-i : goal.invariant-loop-i
invariant-loop-i l =
    has_none_twice is_same_target [] l.targets ≡ has_none_twice is_same_target (take l.i l.targets) (drop l.i l.targets)
