use Rattle.std.proofs.Common.{Some, None, lit<}
use Rattle.std.proofs.lemmas.Str.Pattern.{split_parts}
use Rattle.order_text.proofs.Entries.{spaceless_is_none, pass_is_none, node_is_none}
use Rattle.order_text.proofs.entry.entry_of.Goals as goal

pub returns-in_err-first : goal.returns-in_err-first
returns-in_err-first c =
    let line = c.args.line.now in
    rw c.from_residual.ensures
    (spaceless_is_none line (split_parts 32 line None c.in_err-first.ensures.cases (lit< tt)))

pub returns-in_err-pass : goal.returns-in_err-pass
returns-in_err-pass c =
    let line = c.args.line.now in
    let sides = c.in_ok-first in
    let parts = split_parts 32 line (Some (sides.first, sides.second)) sides.ensures.cases (lit< tt) in
    rw c.from_residual-in_err-pass.ensures
    (pass_is_none line sides.first.now sides.second.now parts.0 parts.1 c.in_err-pass.ensures)

pub returns-in_err-node : goal.returns-in_err-node
returns-in_err-node c =
    let line = c.args.line.now in
    let sides = c.in_ok-first in
    let parts = split_parts 32 line (Some (sides.first, sides.second)) sides.ensures.cases (lit< tt) in
    rw c.from_residual-in_err-node.ensures
    (node_is_none line sides.first.now sides.second.now parts.0 parts.1 c.in_err-node.ensures)
