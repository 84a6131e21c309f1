use Rattle.std.proofs.Common.{◌≡◌, length, drop}
use Rattle.source_patterns.specs.Items.{with_matches}
use Rattle.source_patterns.proofs.given.with_matches.Given as goal

abbrev pub invariant-loop-path : goal.invariant-loop-path
invariant-loop-path l =
    with_matches l.items l.at (drop (length l.yielded) l.fn.found.items)
    ≡ with_matches l.fn.items l.at l.fn.found.items
