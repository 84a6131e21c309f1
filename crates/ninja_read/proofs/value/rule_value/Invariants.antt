use Rattle.std.proofs.Common.{◌≡◌, length, option_map}
use denote.Text.{Utf8}
use denote.Shadow.{shadow}
use Rattle.ninja_read.specs.Inside.{built_pieces, dollar_at}
use Rattle.ninja_read.specs.Values.{pieces_from, in_text, pieces_of}
use Rattle.ninja_read.proofs.value.rule_value.Given as goal

-- the pieces that are there and those of what is left are all
abbrev pub invariant-loop-at : goal.invariant-loop-at
invariant-loop-at l =
    shadow (Utf8 l.rest) × (l.at ≡ dollar_at l.rest)
    × (option_map (built_pieces l.pieces) (pieces_from in_text l.rest) ≡ pieces_of l.written)

abbrev pub decreases-loop-at : goal.decreases-loop-at
decreases-loop-at l = length l.rest
