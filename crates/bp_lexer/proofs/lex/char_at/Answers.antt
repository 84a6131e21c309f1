use Rattle.std.proofs.lemmas.Str.{IsUtf8-drop}
use Rattle.std.proofs.lemmas.Iterator.{YieldsList-from_chars, YieldsList-from_take, text_from_collect}
use Rattle.bp_lexer.proofs.lex.char_at.Goals as goal

pub returns : goal.returns
returns c =
    text_from_collect _ c.collect.ensures.ran (YieldsList-from_take 1
    (YieldsList-from_chars _ (IsUtf8-drop c.args.text.now c.args.at c.utf8.text c.requires) cc) cc)
