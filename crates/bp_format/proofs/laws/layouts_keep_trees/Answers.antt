use Rattle.bp_format.proofs.Lexing.{Lexing}
use Rattle.bp_format.proofs.Theorem.{tree_same}
use Rattle.bp_format.proofs.laws.layouts_keep_trees.Goals as goal

pub returns : goal.returns
returns c =
    let lex : Lexing = record {
      bytes = c.forms_have_bytes.ensures;
      apart = c.forms_stand_apart.ensures;
      within = c.tokens_stand_within.ensures;
      rise = c.places_rise.ensures;
      one_list = c.one_token_list.ensures;
    } in
    λ file text out ts us tree means listed parsed told.
    tree_same lex file text out ts us tree means.0 listed parsed told
