use Rattle.bp_format.proofs.Lexing.{Lexing}
use Rattle.bp_format.proofs.Theorem.{tokens_same}
use Rattle.bp_format.proofs.laws.layouts_keep_tokens.Goals as goal

pub returns : goal.returns
returns c =
    let lex : Lexing = record {
      bytes = c.forms_have_bytes.ensures;
      apart = c.forms_stand_apart.ensures;
      within = c.tokens_stand_within.ensures;
      rise = c.places_rise.ensures;
      one_list = c.one_token_list.ensures;
    } in
    λ file text out ts us means listed told. tokens_same lex file text out ts us means.0 listed told
