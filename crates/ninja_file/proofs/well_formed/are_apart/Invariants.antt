use Rattle.std.proofs.Common.{◌≡◌, ◌&&◌, not, drop}
use Rattle.ninja_file.specs.Meaning.{begins_literally, are_apart}
use Rattle.ninja_file.proofs.well_formed.are_apart.Given as goal

-- what is left decides
abbrev pub invariant-loop-piece : goal.invariant-loop-piece
invariant-loop-piece l =
    (not (l.after_literal && begins_literally (drop l.piece-index l.pieces)) && are_apart (drop l.piece-index l.pieces))
    ≡ are_apart l.pieces
