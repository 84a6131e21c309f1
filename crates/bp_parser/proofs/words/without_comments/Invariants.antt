use Rattle.std.proofs.Common.{◌≡◌, take}
use Rattle.bp_parser.specs.Words.{without_comments}
use Rattle.bp_parser.proofs.words.without_comments.Given as goal

abbrev pub invariant-loop-token : goal.invariant-loop-token
invariant-loop-token l = l.words.items ≡ without_comments (take l.token-index l.tokens)
