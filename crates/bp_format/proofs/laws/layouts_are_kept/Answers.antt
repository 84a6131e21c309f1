use Rattle.bp_format.proofs.Lexing.{Lexing}
use Rattle.bp_format.proofs.Theorem.{layout_again}
use Rattle.bp_format.proofs.laws.layouts_are_kept.Goals as goal

pub returns : goal.returns
returns c =
    let lex : Lexing = record {
      bytes = c.forms_have_bytes.ensures;
      apart = c.forms_stand_apart.ensures;
      within = c.tokens_stand_within.ensures;
      rise = c.places_rise.ensures;
      one_list = c.one_token_list.ensures;
    } in
    λ file text out means. (layout_again lex file text out means.0, means.1)
