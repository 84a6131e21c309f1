use Rattle.std.proofs.Common.{◌≡◌, sym, subst, length, false, rules}
use Rattle.std.specs.Prelude.{IfOk, ◌==◌}
use Rattle.bp_parser.specs.Trees.{tree_of}
use Rattle.bp_parser.proofs.Steps.{sum_is}
use Rattle.bp_parser.proofs.expr.sum_of.Goals as goal

pub returns : goal.returns
returns c =
    let some : (length c.args.terms.items == 0) ≡ false = search rules in
    subst (λ y. IfOk c.sum.result (λ expr. tree_of expr ≡ y))
    (sym (sum_is (tree_of c.args.first) c.args.terms.items some)) c.sum.ensures
