use Rattle.std.proofs.Common.{◌≡◌, map}
use Rattle.command_words.proofs.items.items_in.Given as goal

abbrev pub invariant-loop-item : goal.invariant-loop-item
invariant-loop-item l = l.items ≡ map (λ item. item.now) l.yielded
