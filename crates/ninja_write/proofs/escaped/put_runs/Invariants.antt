use Rattle.std.proofs.Common.{◌≡◌, ◌++◌, length}
use denote.Text.{Utf8}
use denote.Shadow.{shadow}
use Rattle.ninja_write.specs.Escaped.{escaped_bytes}
use Rattle.ninja_write.proofs.escaped.put_runs.Given as goal

-- what is there and what is left are what is wanted
abbrev pub invariant-loop-at : goal.invariant-loop-at
invariant-loop-at l =
    shadow (Utf8 l.rest) × (l.output ++ escaped_bytes l.escape l.rest ≡ l.fn.output ++ escaped_bytes l.escape l.text)

abbrev pub decreases-loop-at : goal.decreases-loop-at
decreases-loop-at l = length l.rest
