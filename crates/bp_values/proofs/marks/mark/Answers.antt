use Rattle.std.proofs.Common.{rules, ◌≡◌, ℕ, List, true}
use Rattle.bp_parser.specs.Trees.{tree_of}
use Rattle.bp_values.specs.Inside.{is_noted}
use Rattle.bp_values.proofs.Noted.{all_noted}
use Rattle.bp_values.proofs.marks.mark.Goals as goal

pub returns-then-are_idle : goal.returns-then-are_idle
returns-then-are_idle c =
    let idle : (q : List ℕ) → is_noted c.args.used.now q ≡ true = search rules in
    λ q. all_noted (tree_of c.args.expr.now) (is_noted c.args.used.now q) q (idle q)
