use Rattle.std.proofs.Common.{◌≡◌, [], length}
use Rattle.command_words.specs.Causes.{causes_at}
use Rattle.command_words.specs.Places.{places_of}
use Rattle.command_words.specs.Words.{option_pairs}
use Rattle.command_words.proofs.Finding.{options_in}
use Rattle.command_words.proofs.Joining.{behind, said}
use Rattle.command_words.proofs.causes.pairs_or_cause.Given as goal

-- the pairs so far are those of the words so far, in which no cause is
abbrev pub invariant-loop-rest : goal.invariant-loop-rest
invariant-loop-rest l =
    (option_pairs l.command (said l.words) ≡ behind l.pairs.items (option_pairs l.command (said l.rest)))
    × (causes_at l.command [] (places_of l.command (said l.words))
    ≡ causes_at l.command (options_in l.pairs.items) (places_of l.command (said l.rest)))

abbrev pub decreases-loop-rest : goal.decreases-loop-rest
decreases-loop-rest l = length l.rest
