use Rattle.std.proofs.Common.{sym, subst, ◌≡◌, false}
use Rattle.std.specs.Prelude.{◌==◌, IfOk}
use Rattle.std.specs.List.{list_any}
use Rattle.bp_lexer.proofs.Unescape.{plain_text}
use Rattle.bp_lexer.proofs.value.quoted_value.Goals as goal

-- no byte is a backslash
pub returns : goal.returns
returns c =
    let none : list_any (λ b. b == 92) c.args.inner.now ≡ false = cc in
    subst (λ l. IfOk c.from_str.result (λ value. value ≡ l))
    (sym (plain_text c.args.inner.now c.utf8.inner none)) c.from_str.ensures
