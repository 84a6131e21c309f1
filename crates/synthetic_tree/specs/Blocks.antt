-- The files of a synthetic tree: blocks of 64 modules, in file order.
use Rattle.std.specs.Prelude.{◌≡◌, ℕ, ◌+◌, ◌*◌, ◌/◌, ◌-◌, ◌≤◌, List, ◌++◌, map, min, length}
use Rattle.std.specs.Prelude.{codes, decimal}
use Rattle.std.specs.List.{All, flat_map, range_with_len}
use Rattle.std.specs.List.Sorted.{IsPermutation, IsStrictlySortedBy}
use Rattle.std.specs.Ordering.{nat_cmp}
use Rattle.std.specs.Cmp.Lexicographic.{slice_cmp}
use Rattle.std.specs.declared.cmp.Ordering.{Ordering}
use Rattle.bp_faults.specs.declared.limits.TheConstants.{LARGEST_FILE, MOST_FILES}
use Rattle.bp_load.specs.Directories.{AreInFileOrder}
use Rattle.synthetic_tree.specs.Modules.{module_text}

-- A file: its path and its bytes.
abbrev pub TreeFile : Type 0
TreeFile = List ℕ × List ℕ

-- The directory of a block.
abbrev pub block_directory : ℕ → List ℕ
block_directory b = codes "b" ++ decimal b

-- The path of a block's file.
abbrev pub block_path : ℕ → List ℕ
block_path b = codes "b" ++ (decimal b ++ codes "/Android.bp")

-- How many modules a block has: 64, or fewer in the last one.
abbrev pub block_size : ℕ → ℕ → ℕ
block_size modules b = min 64 (modules - 64 * b)

-- The text of a block is that of its modules, with nothing between them.
abbrev pub block_text : ℕ → ℕ → ℕ → List ℕ
block_text seed modules b = flat_map (module_text seed) (range_with_len (64 * b) (block_size modules b))

-- The file of a block.
abbrev pub block_file : ℕ → ℕ → ℕ → TreeFile
block_file seed modules b = (block_path b, block_text seed modules b)

-- How many files the tree has.
abbrev pub block_count : ℕ → ℕ
block_count modules = (modules + 63) / 64

-- Directories compare by their bytes.
abbrev pub block_cmp : ℕ → ℕ → Ordering
block_cmp a b = slice_cmp nat_cmp (block_directory a) (block_directory b)

-- These are the files: those of all blocks, and their directories strictly ascend.
abbrev pub AreTree : ℕ → ℕ → List TreeFile → Type 0
AreTree seed modules files =
    (blocks : List ℕ) × IsPermutation (range_with_len 0 (block_count modules)) blocks
    × IsStrictlySortedBy block_cmp blocks × (files ≡ map (block_file seed modules) blocks)

-- What loading asks of files: there are few, in file order, and each is short.
pub record CanLoad (files : List TreeFile) : Type 0 where
  pub few : length files ≤ MOST_FILES
  pub order : AreInFileOrder (map (λ f. f.0) files)
  pub short : All (λ f. length f.1 ≤ LARGEST_FILE) files
