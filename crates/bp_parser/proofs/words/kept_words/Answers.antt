use Rattle.bp_parser.proofs.DefsRead.{without_comments-none}
use Rattle.bp_parser.proofs.words.kept_words.Goals as goal

pub returns-then-not-has_comment : goal.returns-then-not-has_comment
returns-then-not-has_comment c = without_comments-none c.args.tokens.now (cc)
