-- Where files are cut: in file order no file behind the beginning of a branch is below one in front of it, and a trunk
-- is above all files behind it.
use Rattle.std.proofs.Common.{◌≡◌, ◌⊎◌, inl, inr, ⊎_elim, ℕ, ◌+◌, ◌-◌, ◌<◌, ◌≤◌, Bool, true, false, true≢false, List}
use Rattle.std.proofs.Common.{[], ◌∷◌, ◌++◌, length, map, take, drop, get_or, refl, ap, sym, subst, ◌∙◌, arith, suc}
use Rattle.std.proofs.Common.{zero}
use Rattle.std.specs.List.{AllByRecursion}
use Rattle.std.specs.List.Sorted.{IsStrictlySortedBy}
use Rattle.std.specs.declared.cmp.Ordering.TheVariants.{Less}
use Rattle.std.proofs.lemmas.Bool.{cases_order}
use Rattle.std.proofs.lemmas.List.{take-append-drop, get_or-map, length-map}
use Rattle.bp_load.specs.Directories.{is_above, directory_cmp}
use Rattle.bp_load.specs.Trees.{Placed, placed_of}
use Rattle.bp_load.specs.declared.parsed.Parsed.{Parsed}
use Rattle.bp_load.specs.Branches.{directories_of, IsTrunk, IsBranch}
use Rattle.bp_load.proofs.Above.{above_between, above_trans, above_itself}
use Rattle.bp_load.proofs.Stack.{not_above}
use Rattle.bp_load.proofs.Bases.{Below, NotBelow, AreSeparate, AreAbove}

abbrev Directory : Type 0
Directory = List (List ℕ)

abbrev pub keys : List Placed → List Directory
keys files = map (λ p. p.directory) files

abbrev AreBehind : Directory → List Directory → Type 0
AreBehind d more = AllByRecursion (λ x. directory_cmp d x ≡ Less) more

-- behind the beginning of a branch

not_below : (a d : Directory) (files : List Placed) → directory_cmp a d ≡ Less → is_above a d ≡ false
    → AreBehind d (keys files) → NotBelow a files
not_below a d [] before apart behind = tt
not_below a d (q ∷ files) before apart behind =
    (not_above a d q.directory before behind.0 apart, not_below a d files before apart behind.1)

none_behind : (a : Directory) (files : List Placed) (at : ℕ) → AreBehind a (keys files)
    → IsStrictlySortedBy directory_cmp (keys files)
    → (at < length files → is_above a (get_or (keys files) at []) ≡ false) → NotBelow a (drop at files)
unfolding IsStrictlySortedBy
none_behind a [] zero before sorted apart = tt
none_behind a [] (suc at) before sorted apart = tt
none_behind a (q ∷ files) zero before sorted apart =
    (apart (omega arith), not_below a q.directory files before.0 (apart (omega arith)) sorted.0)
none_behind a (q ∷ files) (suc at) before sorted apart =
    none_behind a files at before.1 sorted.1 (λ within. apart (omega arith))

pub separate_at : (files : List Placed) (at : ℕ) → IsStrictlySortedBy directory_cmp (keys files)
    → IsBranch (keys files) at → AreSeparate (take at files) (drop at files)
unfolding IsStrictlySortedBy
separate_at [] zero sorted branch = tt
separate_at [] (suc at) sorted branch = tt
separate_at (p ∷ files) zero sorted branch = tt
separate_at (p ∷ files) (suc at) sorted branch = (
  none_behind p.directory files at sorted.0 sorted.1 (λ within. branch 0 (omega arith)),
  separate_at files at sorted.1 (λ i before. branch (suc i) (omega arith)),
)

-- below a trunk

abbrev last_of : Directory → List Placed → Directory
last_of d [] = d
last_of d (q ∷ files) = last_of q.directory files

last_is : (q : Placed) (files : List Placed)
    → get_or (keys (q ∷ files)) (length (keys (q ∷ files)) - 1) [] ≡ last_of q.directory files
last_is q [] = refl
last_is q (r ∷ files) =
    let one : length (keys (q ∷ r ∷ files)) - 1 ≡ suc (length (keys (r ∷ files)) - 1) = omega arith in
    ap (λ i. get_or (keys (q ∷ r ∷ files)) i []) one ∙ last_is r files

last_behind : (d : Directory) (q : Placed) (files : List Placed) → AreBehind d (keys (q ∷ files))
    → directory_cmp d (last_of q.directory files) ≡ Less
last_behind d q [] behind = behind.0
last_behind d q (r ∷ files) behind = last_behind d r files behind.1

all_below : (a x : Directory) (files : List Placed) → AreBehind a (keys files)
    → IsStrictlySortedBy directory_cmp (keys files)
    → is_above a (last_of x files) ≡ true → Below a files
unfolding IsStrictlySortedBy
all_below a x [] behind sorted above = tt
all_below a x (q ∷ []) behind sorted above = (above, tt)
all_below a x (q ∷ r ∷ files) behind sorted above = (
  above_between a q.directory (last_of r.directory files) behind.0 (last_behind q.directory r files sorted.0) above,
  all_below a q.directory (r ∷ files) behind.1 sorted.1 above,
)

above_last : (x : Directory) (files : List Placed) (count : ℕ) → IsStrictlySortedBy directory_cmp (keys files)
    → ((i : ℕ) → i < count → i < length files → is_above (get_or (keys files) i []) (last_of x files) ≡ true)
    → AreAbove (take count files) (drop count files)
unfolding IsStrictlySortedBy
above_last x [] zero sorted above = tt
above_last x [] (suc count) sorted above = tt
above_last x (p ∷ files) zero sorted above = tt
above_last x (p ∷ files) (suc count) sorted above = (
  subst (Below p.directory) (sym (take-append-drop count files))
      (all_below p.directory p.directory files sorted.0 sorted.1 (above 0 (omega arith) (omega arith))),
  above_last p.directory files count sorted.1 (λ i first within. above (suc i) (omega arith) (omega arith)),
)

pub trunk_above : (files : List Placed) (count : ℕ) → IsStrictlySortedBy directory_cmp (keys files)
    → IsTrunk (keys files) count → AreAbove (take count files) (drop count files)
trunk_above [] count sorted trunk = above_last [] [] count sorted (λ i first within. absurd (omega arith))
trunk_above (p ∷ files) count sorted trunk =
    above_last [] (p ∷ files) count sorted
    (λ i first within. ap (is_above (get_or (keys (p ∷ files)) i [])) (sym (last_is p files)) ∙ trunk i first)

-- a part of files in order is in order

pub sorted_front : (front back : List Directory) → IsStrictlySortedBy directory_cmp (front ++ back)
    → IsStrictlySortedBy directory_cmp front
unfolding IsStrictlySortedBy
sorted_front [] back sorted = tt
sorted_front (x ∷ front) back sorted = (behind_front x front back sorted.0, sorted_front front back sorted.1)
  where
    behind_front : (x : Directory) (front back : List Directory) → AreBehind x (front ++ back) → AreBehind x front
    behind_front x [] back all = tt
    behind_front x (y ∷ front) back all = (all.0, behind_front x front back all.1)

pub sorted_back : (front back : List Directory) → IsStrictlySortedBy directory_cmp (front ++ back)
    → IsStrictlySortedBy directory_cmp back
unfolding IsStrictlySortedBy
sorted_back [] back sorted = sorted
sorted_back (x ∷ front) back sorted = sorted_back front back sorted.1

-- the directory of a file

pub key_at : (files : List Parsed) (i : ℕ) (file : Parsed) → i < length files → file ≡ get_or files i file
    → get_or (directories_of files) i [] ≡ file.directory
key_at files i file within is =
    get_or-map (λ p. p.directory) (map placed_of files) i (placed_of file) []
    (omega (arith, within, length-map {B = Placed} files placed_of))
    ∙ ap (λ (p : Placed). p.directory)
    (get_or-map placed_of files i file (placed_of file) within ∙ ap placed_of (sym is))

-- one more of a trunk

pub trunk_more : (files : List Parsed) (count : ℕ) (file last : Parsed) → count < length files
    → file ≡ get_or files count file → last ≡ get_or files (length files - 1) last
    → is_above file.directory last.directory ≡ true → IsTrunk (directories_of files) count
    → IsTrunk (directories_of files) (count + 1)
trunk_more files count file last within here end above trunk i inside =
    ⊎_elim same (⊎_elim (λ before. trunk i before) (λ behind. absurd (omega (arith, behind, inside))))
    (cases_order i count)
  where
    many : length (directories_of files) ≡ length files
    many = length-map (map placed_of files) (λ (p : Placed). p.directory) ∙ length-map files placed_of

    same : i ≡ count → is_above (get_or (directories_of files) i [])
        (get_or (directories_of files) (length (directories_of files) - 1) []) ≡ true
    same is =
        ap (λ n. is_above (get_or (directories_of files) n [])
        (get_or (directories_of files) (length (directories_of files) - 1) [])) is
        ∙ ap (λ d. is_above d (get_or (directories_of files) (length (directories_of files) - 1) []))
        (key_at files count file within here)
        ∙ ap (λ n. is_above file.directory (get_or (directories_of files) (n - 1) [])) many
        ∙ ap (is_above file.directory) (key_at files (length files - 1) last (omega (arith, within)) end)
        ∙ above

-- in file order each directory is before those behind it

first_behind : (d : Directory) (all : List Directory) (i : ℕ) → AreBehind d all → i < length all
    → directory_cmp d (get_or all i []) ≡ Less
first_behind d [] i behind within = absurd (omega arith)
first_behind d (x ∷ all) zero behind within = behind.0
first_behind d (x ∷ all) (suc i) behind within = first_behind d all i behind.1 (omega (arith, within))

ascends : (all : List Directory) (i k : ℕ) → IsStrictlySortedBy directory_cmp all → i < k → k < length all
    → directory_cmp (get_or all i []) (get_or all k []) ≡ Less
unfolding IsStrictlySortedBy
ascends [] i k sorted before within = absurd (omega arith)
ascends (x ∷ all) i zero sorted before within = absurd (omega arith)
ascends (x ∷ all) zero (suc k) sorted before within = first_behind x all k sorted.0 (omega (arith, within))
ascends (x ∷ all) (suc i) (suc k) sorted before within =
    ascends all i k sorted.1 (omega (arith, before)) (omega (arith, within))

-- a branch that goes on

-- A branch begins at a place, and its directory is above all from there up to another place.
pub record IsOpenBranch (all : List Directory) (branch at : ℕ) : Type 0 where
  pub begins : IsBranch all branch
  pub near : branch ≤ at
  pub above : (i : ℕ) → branch ≤ i → i < at → is_above (get_or all branch []) (get_or all i []) ≡ true

-- the directory goes on the branch
pub branch_goes_on : (all : List Directory) (branch at : ℕ) → is_above (get_or all branch []) (get_or all at []) ≡ true
    → IsOpenBranch all branch at → IsOpenBranch all branch (at + 1)
branch_goes_on all branch at here is = record { begins = is.begins; near = omega (arith, is.near); above = above }
  where
    above : (i : ℕ) → branch ≤ i → i < at + 1 → is_above (get_or all branch []) (get_or all i []) ≡ true
    above i from inside =
        ⊎_elim (λ same. ap (λ n. is_above (get_or all branch []) (get_or all n [])) same ∙ here)
        (⊎_elim (λ before. is.above i from before) (λ behind. absurd (omega (arith, behind, inside))))
        (cases_order i at)

-- the directory begins another branch
pub branch_begins : (all : List Directory) (branch at : ℕ) → IsStrictlySortedBy directory_cmp all → at < length all
    → is_above (get_or all branch []) (get_or all at []) ≡ false → IsOpenBranch all branch at
    → IsBranch all at
branch_begins all branch at sorted within apart is i inside =
    ⊎_elim (λ same. on_branch (omega (arith, same))) (⊎_elim in_front (λ behind. on_branch (omega (arith, behind))))
    (cases_order i branch)
  where
    before : i < branch → branch < at
    before front = by (cases_order branch at)
      where
        by : (branch ≡ at) ⊎ ((branch < at) ⊎ (at < branch)) → branch < at
        by (inr (inl is)) = is
        by (inr (inr behind)) = absurd (omega (arith, behind, is.near))
        by (inl same) =
            absurd (true≢false (sym (above_itself (get_or all at []))
            ∙ ap (λ n. is_above (get_or all n []) (get_or all at [])) (sym same) ∙ apart))

    in_front : i < branch → is_above (get_or all i []) (get_or all at []) ≡ false
    in_front front = not_above (get_or all i []) (get_or all branch []) (get_or all at [])
        (ascends all i branch sorted front (omega (arith, before front, within))) (ascends all branch at sorted
        (before front) within) (is.begins i front)

    on_branch : branch ≤ i → is_above (get_or all i []) (get_or all at []) ≡ false
    on_branch from = by (is_above (get_or all i []) (get_or all at [])) refl
      where
        by : (above : Bool) → is_above (get_or all i []) (get_or all at []) ≡ above
            → is_above (get_or all i []) (get_or all at []) ≡ false
        by true above =
            absurd (true≢false (sym (above_trans (get_or all branch []) (get_or all i []) (get_or all at [])
            (is.above i from inside) above) ∙ apart))
        by false above = above

pub branch_opens : (all : List Directory) (at : ℕ) → IsBranch all at → IsOpenBranch all at (at + 1)
branch_opens all at begins = record { begins = begins; near = omega arith; above = above }
  where
    above : (i : ℕ) → at ≤ i → i < at + 1 → is_above (get_or all at []) (get_or all i []) ≡ true
    above i from inside =
        let same : at ≡ i = omega (arith, from, inside) in
        ap (λ n. is_above (get_or all at []) (get_or all n [])) (sym same) ∙ above_itself (get_or all at [])
