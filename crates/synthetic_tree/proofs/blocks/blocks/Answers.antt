use Rattle.std.proofs.Common.{◌≡◌, ◌∙◌, ◌*◌, ◌<◌, ◌∷◌, ◌++◌, [], ℕ, List, rules, ap, arith, subst, sym}
use Rattle.std.specs.List.{range_with_len}
use Rattle.std.specs.List.Sorted.{IsPermutation}
use Rattle.std.specs.Ordering.{is_lt}
use Rattle.std.proofs.lemmas.Cmp.{nat_list_cmp_total}
use Rattle.std.proofs.lemmas.List.Sorted.{All-permutation, ranks_by, answers_always}
use Rattle.synthetic_tree.specs.Blocks.{block_cmp, block_count, block_directory}
use Rattle.synthetic_tree.proofs.Order.{ascend, within}
use Rattle.synthetic_tree.proofs.Ranges.{range-more}
use Rattle.synthetic_tree.proofs.blocks.blocks.Goals as goal

pub loop-block-preserved : goal.loop-block-preserved
loop-block-preserved c =
    c.in_ok-push.ensures.items
    ∙ ap (λ (bs : List ℕ). bs ++ c.loop-block.block ∷ []) c.loop-block.invariant
    ∙ sym (range-more 0 c.loop-block.block c.loop-block.block (omega arith))

pub returns-clause-all : goal.returns-clause-all
returns-clause-all c =
    let all : c.loop-block.block ≡ block_count c.args.modules = omega arith in
    subst (λ (bs : List ℕ). IsPermutation bs c.sort_by.new.self.items)
    (c.loop-block.invariant ∙ ap (range_with_len 0) all) c.in_ok-sort_by.ensures.permutation

pub returns-clause-order : goal.returns-clause-order
returns-clause-order c =
    let all : c.loop-block.block ≡ block_count c.args.modules = omega arith in
    let moved = subst (λ (bs : List ℕ). IsPermutation bs c.sort_by.new.self.items)
    (c.loop-block.invariant ∙ ap (range_with_len 0) all) c.in_ok-sort_by.ensures.permutation in
    let sorted = c.in_ok-sort_by.ensures.sorted (λ a b. is_lt (block_cmp a b))
    (ranks_by nat_list_cmp_total block_directory) (answers_always _ _ _ (λ f a r g k. search rules)) in
    ascend (block_count c.args.modules) c.sort_by.new.self.items (omega arith) moved sorted

pub returns-clause-within : goal.returns-clause-within
returns-clause-within c =
    let all : c.loop-block.block ≡ block_count c.args.modules = omega arith in
    let moved = subst (λ (bs : List ℕ). IsPermutation bs c.sort_by.new.self.items)
    (c.loop-block.invariant ∙ ap (range_with_len 0) all) c.in_ok-sort_by.ensures.permutation in
    All-permutation (λ b. 64 * b < c.args.modules)
    (range_with_len 0 (block_count c.args.modules)) c.sort_by.new.self.items moved (within c.args.modules)
