-- The order of the blocks' directories.
use Rattle.std.proofs.Common.{◌≡◌, ◌∙◌, ◌<◌, ◌≤◌, ◌+◌, ◌*◌, ◌^◌, ℕ, suc, true, false, List, [], ◌∷◌, length, get_or, ap}
use Rattle.std.proofs.Common.{refl, arith}
use Rattle.std.specs.Prelude.{decimal}
use Rattle.std.specs.List.{All, AllByRecursion, IsDistinct, range_with_len}
use Rattle.std.specs.List.Sorted.{IsPermutation, IsSortedBy, IsStrictlySortedBy}
use Rattle.std.specs.Ordering.{eq_by_cmp, is_eq, is_lt, ordering_reverse}
use Rattle.std.specs.Str.{bytes_eq}
use Rattle.std.proofs.lemmas.Cmp.{nat_list_cmp_total}
use Rattle.std.specs.declared.cmp.Ordering.{Ordering}
use Rattle.std.specs.declared.cmp.Ordering.TheVariants.{Less, Equal, Greater}
use Rattle.std.proofs.lemmas.Cmp.{eq_by_cmp_equiv}
use Rattle.std.proofs.lemmas.Fmt.{decimal_injective}
use Rattle.std.proofs.lemmas.List.FromFn.{get_or-range_with_len, length-range_with_len}
use Rattle.std.proofs.lemmas.List.Sorted.{ranks_by, sorted_far}
use Rattle.std.proofs.lemmas.Map.Keys.{IsDistinct-from_apart, IsDistinct-IsPermutation, apart_from_distinct}
use Rattle.std.proofs.lemmas.Map.Text.{is_eq-slice_cmp}
use Rattle.std.proofs.lemmas.Slice.Eq.{bytes_eq-Decides}
use Rattle.std.proofs.lemmas.Bool.{false_from_ne_true}
use Rattle.synthetic_tree.specs.Blocks.{block_cmp, block_count, block_directory}

all_by_indices : {K : Type 0} (P : K → Type 0) (xs : List K) → ((j : ℕ) (d : K) → j < length xs → P (get_or xs j d))
    → AllByRecursion P xs
all_by_indices P [] h = tt
all_by_indices P (x ∷ xs) h = (h 0 x (omega arith), all_by_indices P xs (λ j d below. h (suc j) d (omega arith)))

-- Keys of which each is below each later one ascend strictly.
strict_by_indices : {K : Type 0} (c : K → K → Ordering) (xs : List K)
    → ((i j : ℕ) (d : K) → i < j → j < length xs → c (get_or xs i d) (get_or xs j d) ≡ Less) → IsStrictlySortedBy c xs
unfolding IsStrictlySortedBy
strict_by_indices c [] h = tt
strict_by_indices c (x ∷ xs) h = (
  all_by_indices (λ y. c x y ≡ Less) xs (λ j d below. h 0 (suc j) d (omega arith) (omega arith)),
  strict_by_indices c xs (λ i j d less below. h (suc i) (suc j) d (omega arith) (omega arith)),
)

-- Two blocks have two directories.
directories_differ : (a b : ℕ) → a < 2 ^ 64 → b < 2 ^ 64 → (a ≡ b → ⊥) → eq_by_cmp block_cmp a b ≡ false
directories_differ a b small_a small_b apart =
    is_eq-slice_cmp (block_directory a) (block_directory b)
    ∙ false_from_ne_true (bytes_eq (block_directory a) (block_directory b)) (λ same.
    let texts : block_directory a ≡ block_directory b =
    (bytes_eq-Decides (block_directory a) (block_directory b)).0 same in
    let numbers : decimal a ≡ decimal b = cc in
    apart (decimal_injective a b small_a small_b numbers))

-- So the first n blocks differ by their directories.
pub range_differs : (n : ℕ) → n ≤ 2 ^ 64 → IsDistinct (eq_by_cmp block_cmp) (range_with_len 0 n)
range_differs n small = IsDistinct-from_apart (eq_by_cmp block_cmp) (range_with_len 0 n) (λ i j d less below.
    let within : j < n = omega (arith, length-range_with_len 0 n) in
    let first : get_or (range_with_len 0 n) i d ≡ 0 + i = get_or-range_with_len 0 n i d (omega arith) in
    let second : get_or (range_with_len 0 n) j d ≡ 0 + j = get_or-range_with_len 0 n j d within in
    directories_differ (get_or (range_with_len 0 n) i d) (get_or (range_with_len 0 n) j d) (omega arith) (omega arith)
    (λ same. absurd (omega arith)))

less_of : (x y : Ordering) → is_lt y ≡ false → is_eq x ≡ false → (x ≡ Greater → y ≡ Less) → x ≡ Less
less_of Less y after apart flips = refl
less_of Equal y after apart flips = absurd (cc)
less_of Greater y after apart flips =
    let first : y ≡ Less = flips refl in let bad : is_lt y ≡ true = ap is_lt first in absurd (cc)

-- Numbers that are sorted by their directories ascend strictly.
pub ascend : (n : ℕ) (blocks : List ℕ) → n ≤ 2 ^ 64 → IsPermutation (range_with_len 0 n) blocks
    → IsSortedBy (λ a b. is_lt (block_cmp a b)) blocks → IsStrictlySortedBy block_cmp blocks
ascend n blocks small moved sorted =
    let apart : IsDistinct (eq_by_cmp block_cmp) blocks = IsDistinct-IsPermutation (eq_by_cmp block_cmp)
    (λ x y. (eq_by_cmp_equiv nat_list_cmp_total).symm (block_directory x) (block_directory y))
    (range_with_len 0 n) blocks moved (range_differs n small) in
    strict_by_indices block_cmp blocks (λ i j d less below.
    less_of (block_cmp (get_or blocks i d) (get_or blocks j d)) (block_cmp (get_or blocks j d) (get_or blocks i d))
    (sorted_far (λ a b. is_lt (block_cmp a b)) (ranks_by nat_list_cmp_total block_directory) blocks sorted i j d
    (omega arith) below)
    (apart_from_distinct (eq_by_cmp block_cmp) blocks i j d apart less below)
    (λ greater. nat_list_cmp_total.antisymm (block_directory (get_or blocks j d)) (block_directory (get_or blocks i d))
    ∙ ap ordering_reverse greater))

-- Each block has a module.
pub within : (modules : ℕ) → All (λ b. 64 * b < modules) (range_with_len 0 (block_count modules))
within modules k d below =
    let there : k < block_count modules = omega (arith, length-range_with_len 0 (block_count modules)) in
    let is : get_or (range_with_len 0 (block_count modules)) k d ≡ 0 + k =
    get_or-range_with_len 0 (block_count modules) k d there in
    omega arith
