-- What holds of all synthetic trees.
use Rattle.std.specs.Prelude.{◌≡◌, ℕ, ◌≤◌, List}
use Rattle.bp_faults.specs.declared.limits.TheConstants.{MOST_SYNTHETIC_MODULES}
use Rattle.synthetic_tree.specs.Blocks.{AreTree, TreeFile}

-- A seed and a number of modules have one tree.
abbrev pub OneTree : Type 0
OneTree = (seed modules : ℕ) (first second : List TreeFile) → AreTree seed modules first → AreTree seed modules second
    → first ≡ second

-- A seed has a tree of each number of modules that `synth_tree` takes.
abbrev pub SomeTree : Type 0
SomeTree =
    (seed modules : ℕ) → modules ≤ MOST_SYNTHETIC_MODULES → (files : List TreeFile) × AreTree seed modules files
