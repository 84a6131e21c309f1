use Rattle.std.proofs.Common.{None, lit<}
use Rattle.std.proofs.lemmas.Str.Pattern.{strip_prefix_char}
use Rattle.ninja_read.proofs.FormRead.{no_binding}
use Rattle.ninja_read.proofs.head.binding_of.Goals as goal

pub returns-in_default : goal.returns-in_default
returns-in_default c =
    no_binding c.args.text.now c.drop_spaces.result.now c.split_name.result.0.now c.split_name.result.1.now
    c.drop_spaces-2.result.now c.drop_spaces.ensures c.split_name.ensures.1 c.drop_spaces-2.ensures
    (strip_prefix_char 61 c.drop_spaces-2.result.now None c.in_default.ensures.cases (lit< tt))
