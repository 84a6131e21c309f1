use Rattle.std.proofs.Common.{subst, sym}
use Rattle.bp_lexer.specs.declared.token.Token.{Token}
use Rattle.bp_lexer.specs.Meaning.{IsToken, IsTokenList}
use Rattle.reading_tests.proofs.lexer.first_value.Goals as goal

pub value_of-requires : goal.value_of-requires
value_of-requires c =
    let text = c.args.text.now in
    let list = subst (IsTokenList 1 text) (sym c.deref.ensures.value) c.in_ok-list.ensures in
    let first =
    c.lists_have_tokens.ensures 1 text c.deref.result.now list 0 c.in-Some.token.now c.in-Some.ensures.item.3.0 in
    subst (λ (t : Token). IsToken t.place.file text t) (sym c.in-Some.ensures.item.1) first
