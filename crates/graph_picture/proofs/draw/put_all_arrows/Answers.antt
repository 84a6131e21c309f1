use Rattle.std.proofs.Common.{◌∙◌, ◌++◌, ℕ, List, ap, sym, take, map}
use Rattle.std.specs.List.{flat_map}
use Rattle.graph_picture.specs.declared.variant.Arrow.{Arrow}
use Rattle.graph_picture.specs.Drawing.{arrow_drawn, shown_arrows}
use Rattle.graph_picture.proofs.Chains.{behind}
use Rattle.graph_picture.proofs.Drawings.{all_taken, lines_for}
use Rattle.graph_picture.proofs.draw.put_all_arrows.Goals as goal

pub loop-n-preserved : goal.loop-n-preserved
loop-n-preserved c =
    let old = c.args.text.now.items in
    let variants = c.args.variants.now in
    let marks = c.args.marks.now in
    let n = c.loop-n.n in
    let v = c.index-variants-n.result in
    behind old c.loop-n.text.items c.put_arrows.new.text.items
    (flat_map arrow_drawn (shown_arrows (take n variants) marks))
    (lines_for marks (map (λ (b : Arrow). (n, b)) v.edges)) c.loop-n.invariant
    (c.in_ok-put_arrows.ensures
    ∙ ap (λ (l : List Arrow). c.loop-n.text.items ++ lines_for marks (map (λ (b : Arrow). (n, b)) l))
    c.as_slice.ensures)
    ∙ ap (λ (l : List ℕ). old ++ l) (sym (all_taken marks variants n v c.loop-n-test.true c.index-variants-n.is))
