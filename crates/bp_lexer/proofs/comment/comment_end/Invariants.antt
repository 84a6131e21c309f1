use Rattle.std.proofs.Common.{ℕ, ◌+◌, ◌<◌}
use Rattle.bp_lexer.specs.Forms.{IsEnd}
use Rattle.bp_lexer.proofs.comment.comment_end.Given as goal

-- no end stands before the pair that ends at n
abbrev pub invariant-loop-n : goal.invariant-loop-n
invariant-loop-n l = (m : ℕ) → m + 1 < l.n → IsEnd l.rest m → ⊥
