-- A synthetic tree can be loaded.
use Rattle.std.proofs.Common.{◌≡◌, ◌∙◌, ◌<◌, ◌≤◌, ◌*◌, ◌-◌, ◌^◌, ℕ, suc, List, [], ◌∷◌, map, length, take, ap, sym}
use Rattle.std.proofs.Common.{refl, arith, subst, zero}
use Rattle.std.specs.List.{All, AllByRecursion, range_with_len}
use Rattle.std.specs.List.Sorted.{IsPermutation, IsStrictlySortedBy}
use Rattle.std.specs.Ordering.{nat_cmp}
use Rattle.std.specs.Cmp.Lexicographic.{slice_cmp}
use Rattle.std.specs.declared.cmp.Ordering.TheVariants.{Less}
use Rattle.std.proofs.lemmas.List.{length-map}
use Rattle.std.proofs.lemmas.List.FromFn.{length-range_with_len}
use Rattle.std.proofs.lemmas.List.Sorted.{length_permutation}
use Rattle.bp_faults.specs.declared.limits.TheConstants.{LARGEST_FILE, MOST_SYNTHETIC_MODULES}
use Rattle.bp_load.specs.Directories.{AreInFileOrder, directories}
use Rattle.synthetic_tree.specs.Blocks.{CanLoad, TreeFile, block_cmp, block_count, block_directory, block_file}
use Rattle.synthetic_tree.specs.Blocks.{block_path}
use Rattle.synthetic_tree.proofs.Lengths.{block_short}
use Rattle.synthetic_tree.proofs.Paths.{components}

-- All blocks are those of a tree of that many modules.
abbrev pub Within : ℕ → List ℕ → Type 0
Within modules blocks = All (λ b. 64 * b < modules) blocks

directories_are : (b : ℕ) → b < 2 ^ 64 → directories (block_path b) ≡ block_directory b ∷ []
directories_are b small = ap (λ (ps : List (List ℕ)). take (length ps - 1) ps) (components b small)

less_alone : (a b : ℕ) → a < 2 ^ 64 → b < 2 ^ 64 → block_cmp a b ≡ Less
    → slice_cmp (slice_cmp nat_cmp) (directories (block_path a)) (directories (block_path b)) ≡ Less
less_alone a b small_a small_b less = rw (directories_are a small_a, directories_are b small_b, less) refl

-- where x is below all of xs, its directory is below all of theirs
all_below : (modules x : ℕ) (xs : List ℕ) → modules ≤ MOST_SYNTHETIC_MODULES → 64 * x < modules → Within modules xs
    → AllByRecursion (λ y. block_cmp x y ≡ Less) xs
    → AllByRecursion (λ d. slice_cmp (slice_cmp nat_cmp) (directories (block_path x)) d ≡ Less)
    (map directories (map block_path xs))
all_below modules x [] few here there h = tt
all_below modules x (y ∷ xs) few here there h =
    let first : 64 * y < modules = there 0 y (omega arith) in (
      less_alone x y (omega arith) (omega arith) h.0,
      all_below modules x xs few here (λ k d below. there (suc k) d (omega arith)) h.1,
    )

in_order : (modules : ℕ) (blocks : List ℕ) → modules ≤ MOST_SYNTHETIC_MODULES → Within modules blocks
    → IsStrictlySortedBy block_cmp blocks → AreInFileOrder (map block_path blocks)
unfolding IsStrictlySortedBy
in_order modules [] few there h = tt
in_order modules (x ∷ xs) few there h =
    let here : 64 * x < modules = there 0 x (omega arith) in
    let rest : Within modules xs = λ k d below. there (suc k) d (omega arith) in
    (all_below modules x xs few here rest h.0, in_order modules xs few rest h.1)

paths_are : (seed modules : ℕ) (blocks : List ℕ)
    → map (λ (f : TreeFile). f.0) (map (block_file seed modules) blocks) ≡ map block_path blocks
paths_are seed modules [] = refl
paths_are seed modules (b ∷ bs) = ap (λ (ps : List (List ℕ)). block_path b ∷ ps) (paths_are seed modules bs)

all_short : (seed modules : ℕ) (blocks : List ℕ) → modules ≤ MOST_SYNTHETIC_MODULES → Within modules blocks
    → All (λ f. length f.1 ≤ LARGEST_FILE) (map (block_file seed modules) blocks)
all_short seed modules [] few there k d below = absurd (omega arith)
all_short seed modules (b ∷ bs) few there zero d below = block_short seed modules b few (there zero b (omega arith))
all_short seed modules (b ∷ bs) few there (suc k) d below =
    all_short seed modules bs few (λ j e l. there (suc j) e (omega arith)) k d (omega arith)

pub can_load : (seed modules : ℕ) (blocks : List ℕ) → modules ≤ MOST_SYNTHETIC_MODULES
    → IsPermutation (range_with_len 0 (block_count modules)) blocks → Within modules blocks
    → IsStrictlySortedBy block_cmp blocks → CanLoad (map (block_file seed modules) blocks)
can_load seed modules blocks few moved there ascend = record {
  few =
      let count : length blocks ≡ block_count modules =
      length_permutation (range_with_len 0 (block_count modules)) blocks moved
      ∙ length-range_with_len 0 (block_count modules) in
      let same : length (map (block_file seed modules) blocks) ≡ length blocks =
      length-map blocks (block_file seed modules) in
      omega arith;
  order = subst AreInFileOrder (sym (paths_are seed modules blocks)) (in_order modules blocks few there ascend);
  short = all_short seed modules blocks few there;
}
