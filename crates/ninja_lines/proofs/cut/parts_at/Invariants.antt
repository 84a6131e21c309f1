use Rattle.std.proofs.Common.{◌≡◌, length, false, map, ◌++◌}
use denote.Text.{Utf8}
use denote.Shadow.{shadow}
use Rattle.ninja_lines.specs.Cuts.{parts_between}
use Rattle.ninja_lines.specs.Inside.{reach}
use Rattle.ninja_lines.proofs.cut.parts_at.Given as goal

-- the parts that are there and those of what is left are all parts
abbrev pub invariant-loop-end : goal.invariant-loop-end
invariant-loop-end l =
    shadow (Utf8 l.rest) × (l.end ≡ reach l.at false l.rest)
    × (map (λ part. part.now) l.parts.items ++ parts_between l.at false l.rest ≡ parts_between l.at false l.text)

abbrev pub decreases-loop-end : goal.decreases-loop-end
decreases-loop-end l = length l.rest
