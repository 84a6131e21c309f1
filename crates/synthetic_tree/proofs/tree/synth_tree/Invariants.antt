use Rattle.std.proofs.Common.{◌≡◌, map, take}
use Rattle.synthetic_tree.specs.Blocks.{block_file}
use Rattle.synthetic_tree.proofs.tree.synth_tree.Given as goal

abbrev pub invariant-loop-block : goal.invariant-loop-block
invariant-loop-block l =
    map (λ file. (file.0, file.1.items)) l.files.items
    ≡ map (block_file l.seed l.modules) (take l.block-index l.block-items)
