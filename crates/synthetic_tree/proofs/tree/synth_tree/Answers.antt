use Rattle.std.proofs.Common.{◌∙◌, ℕ, List, ap, sym, subst, map}
use Rattle.std.proofs.lemmas.List.{take_all}
use Rattle.synthetic_tree.specs.Blocks.{CanLoad, TreeFile, block_file}
use Rattle.synthetic_tree.proofs.Loading.{can_load}
use Rattle.synthetic_tree.proofs.tree.synth_tree.Goals as goal

pub returns-clause-loads : goal.returns-clause-loads
returns-clause-loads c =
    let blocks = c.in_ok-blocks.blocks.items in
    let all = take_all c.loop-block.block-index c.as_slice-block-items.result.now c.loop-block-test.false
    ∙ c.as_slice-block-items.ensures.value in
    let files = c.loop-block.invariant ∙ ap (λ (bs : List ℕ). map (block_file c.args.seed c.args.modules) bs) all in
    subst (λ (fs : List TreeFile). CanLoad fs) (sym files)
    (can_load c.args.seed c.args.modules blocks c.requires.few c.in_ok-blocks.ensures.all c.in_ok-blocks.ensures.within
    c.in_ok-blocks.ensures.order)
