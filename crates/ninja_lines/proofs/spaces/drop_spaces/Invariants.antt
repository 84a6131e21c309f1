use Rattle.std.proofs.Common.{◌≡◌, length}
use denote.Text.{Utf8}
use denote.Shadow.{shadow}
use Rattle.ninja_lines.specs.Meaning.{drop_spaces}
use Rattle.ninja_lines.proofs.spaces.drop_spaces.Given as goal

-- the same is left
abbrev pub invariant-loop-behind : goal.invariant-loop-behind
invariant-loop-behind l = shadow (Utf8 l.rest) × (drop_spaces l.rest ≡ drop_spaces l.text)

abbrev pub decreases-loop-behind : goal.decreases-loop-behind
decreases-loop-behind l = length l.rest
