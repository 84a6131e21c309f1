use Rattle.std.proofs.Common.{arith, ap, sym, subst, ◌≡◌, ◌∙◌, false}
use Rattle.std.specs.Prelude.{IfOk, encode_utf8_all, chars}
use Rattle.bp_lexer.specs.Strings.{unescaped_chars}
use Rattle.bp_lexer.specs.Meaning.{string_of, word_of}
use Rattle.bp_lexer.proofs.Boundary.{token_span, before_token, after_token, inner_begins, inner_ends, inner_is}
use Rattle.bp_lexer.proofs.value.value_of.Goals as goal

pub range-requires-clause-start_boundary : goal.range-requires-clause-start_boundary
range-requires-clause-start_boundary c = λ some. inner_begins _ c.args.text.now c.args.token.now c.utf8.text c.requires

pub range-requires-clause-end_boundary : goal.range-requires-clause-end_boundary
range-requires-clause-end_boundary c = inner_ends _ c.args.text.now c.args.token.now (λ e. cc) c.requires

pub range-requires-in-Raw-clause-start_boundary : goal.range-requires-in-Raw-clause-start_boundary
range-requires-in-Raw-clause-start_boundary c =
    λ some. inner_begins _ c.args.text.now c.args.token.now c.utf8.text c.requires

pub range-requires-in-Raw-clause-end_boundary : goal.range-requires-in-Raw-clause-end_boundary
range-requires-in-Raw-clause-end_boundary c = inner_ends _ c.args.text.now c.args.token.now (λ e. cc) c.requires

pub range-requires-in_default : goal.range-requires-in_default
range-requires-in_default c = record {
  start_le_end = omega (arith, token_span _ c.args.text.now c.args.token.now c.requires);
  start_boundary = λ some. before_token _ c.args.text.now c.args.token.now c.requires;
  end_boundary = after_token _ c.args.text.now c.args.token.now c.utf8.text c.requires;
}

pub returns-in-Quoted : goal.returns-in-Quoted
returns-in-Quoted c =
    let same = c.range.ensures.value ∙ inner_is _ c.args.text.now c.args.token.now c.requires in
    let means = ap (λ l. encode_utf8_all (unescaped_chars false (chars l))) same
    ∙ ap (λ k. string_of k (word_of c.args.text.now c.args.token.now)) (sym c.in-Quoted.is) in
    subst (λ l. IfOk c.quoted_value.result (λ value. value ≡ l)) means c.quoted_value.ensures

pub returns-in-Raw : goal.returns-in-Raw
returns-in-Raw c =
    let same = c.range-in-Raw.ensures.value
    ∙ inner_is _ c.args.text.now c.args.token.now c.requires
    ∙ ap (λ k. string_of k (word_of c.args.text.now c.args.token.now)) (sym c.in-Raw.is) in
    subst (λ l. IfOk c.from_str.result (λ value. value ≡ l)) same c.from_str.ensures
