use Rattle.std.proofs.Common.{◌≡◌, ◌+◌, drop, length}
use Rattle.ninja_lines.specs.Shown.{texts}
use Rattle.ninja_read.specs.Heads.{before_mark}
use Rattle.ninja_read.proofs.head.mark_at.Given as goal

-- the whole way is what was passed and what is left
abbrev pub invariant-loop-index : goal.invariant-loop-index
invariant-loop-index l =
    l.index + length (before_mark l.mark (texts (drop l.index l.words))) ≡ length (before_mark l.mark (texts l.words))
