use Rattle.std.proofs.Common.{◌≡◌, ◌+◌, drop}
use Rattle.ninja_lines.specs.Inside.{line_length}
use Rattle.ninja_lines.proofs.joined_lines.line_length.Given as goal

-- the whole way is what was passed and what is left
abbrev pub invariant-loop-index : goal.invariant-loop-index
invariant-loop-index l = l.index + line_length (drop l.index l.bytes) ≡ line_length l.bytes
