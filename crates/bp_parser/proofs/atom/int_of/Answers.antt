use Rattle.bp_parser.proofs.Integers.{int_parses}
use Rattle.bp_parser.proofs.atom.int_of.Goals as goal

pub unwrap-requires : goal.unwrap-requires
unwrap-requires c =
    int_parses c.integers_are_numerals.ensures _ c.args.text.now c.args.token c.text.result.now c.parse.result
    c.requires.token c.requires.int c.text.ensures c.parse.ensures.value.0
