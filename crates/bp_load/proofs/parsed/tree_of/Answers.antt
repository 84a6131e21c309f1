use Rattle.std.proofs.Common.{Vec, Global, refl, subst}
use Rattle.std.specs.Prelude.{Ok, Err}
use Rattle.bp_faults.specs.Answers.{Tells}
use Rattle.bp_faults.proofs.Refusals.{tells, refused}
use Rattle.bp_lexer.specs.declared.token.Token.{Token}
use Rattle.bp_lexer.specs.Meaning.{LexMeans}
use Rattle.bp_parser.specs.Meaning.{ParseMeans}
use Rattle.bp_parser.specs.Trees.{tree_view}
use Rattle.bp_load.specs.Trees.{SourceTextMeans}
use Rattle.bp_load.proofs.parsed.tree_of.Goals as goal

pub returns-in_err-tokens : goal.returns-in_err-tokens
returns-in_err-tokens c =
    refused {T = Vec Token Global} (λ tokens. tokens.items) tree_view (LexMeans c.args.number c.args.text.now)
    (SourceTextMeans c.args.number c.args.text.now) (λ fault first. (Err fault, first, refl)) c.in_err-tokens.field-0.0
    c.from_residual.result c.from_residual.ensures.1 c.in_err-tokens.ensures

pub returns : goal.returns
returns c =
    let tokens = c.in_ok-tokens.tokens.items in
    tells tree_view (ParseMeans c.args.text.now tokens) (SourceTextMeans c.args.number c.args.text.now)
    (λ outcome means. (Ok tokens, c.in_ok-tokens.ensures, means)) c.parse.result
    (subst (λ ts. Tells tree_view (ParseMeans c.args.text.now ts) c.parse.result) c.as_slice.ensures.value
    c.parse.ensures)
