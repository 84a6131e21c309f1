-- The table of `strsim` has the distance of its recursive definition.
use Rattle.std.proofs.Common.{◌≡◌, ◌<◌, ◌≤◌, ◌+◌, min, ℕ, zero, suc, List, [], ◌∷◌, length, nat_eq, get_or, arith, ap}
use Rattle.std.proofs.Common.{◌∙◌}
use Rattle.strsim.specs.Edits.{levenshtein_row, rows, next_row, cost_at}
use Rattle.near_names.specs.Nearest.{edits, difference}

cost_is : (x : ℕ) (b : List ℕ) (j : ℕ) → j < length b → cost_at nat_eq x b j ≡ difference x (get_or b j 0)
unfolding cost_at
cost_is x [] j lt = absurd (omega arith)
cost_is x (y ∷ b) zero lt = λ i. difference x y
cost_is x (y ∷ b) (suc j) lt = cost_is x b j (omega arith)

-- a row of the table, from the row before it
row_is : (a b : List ℕ) (i x : ℕ) (before : ℕ → ℕ) → x ≡ get_or a i 0
    → ((j : ℕ) → j ≤ length b → before j ≡ edits a b i j) → (j : ℕ) → j ≤ length b
    → next_row (cost_at nat_eq x b) before (suc i) j ≡ edits a b (suc i) j
unfolding next_row edits
row_is a b i x before is h zero le = λ t. suc i
row_is a b i x before is h (suc j) le =
    let left = row_is a b i x before is h j (omega arith) in
    let over = h j (omega arith) in
    let up = h (suc j) le in
    let cost = cost_is x b j (omega arith) ∙ ap (λ y. difference y (get_or b j 0)) is in
    λ t. min (left t + 1) (min (over t + cost t) (up t + 1))

-- all rows from the nth on
rows_are : (a b xs : List ℕ) (n m : ℕ) (before : ℕ → ℕ) → m ≡ n + length xs
    → ((k : ℕ) → k < length xs → get_or xs k 0 ≡ get_or a (n + k) 0)
    → ((j : ℕ) → j ≤ length b → before j ≡ edits a b n j) → (j : ℕ) → j ≤ length b
    → rows nat_eq xs b n before j ≡ edits a b m j
unfolding rows
rows_are a b [] n m before all same h j le =
    let here : n ≡ m = omega arith in h j le ∙ ap (λ k. edits a b k j) here
rows_are a b (x ∷ xs) n m before all same h j le =
    let first : n + 0 ≡ n = omega arith in
    let is = same 0 (omega arith) ∙ ap (λ k. get_or a k 0) first in
    rows_are a b xs (suc n) m (next_row (cost_at nat_eq x b) before (suc n)) (omega arith)
    (λ k lt. let next : n + suc k ≡ suc n + k = omega arith in same (suc k) (omega arith) ∙ ap (λ k. get_or a k 0) next)
    (row_is a b n x before is h) j le

base : (a b : List ℕ) (j : ℕ) → j ≡ edits a b 0 j
unfolding edits
base a b j = λ i. j

pub table_is_edits : (a b : List ℕ) → levenshtein_row nat_eq a b (length b) ≡ edits a b (length a) (length b)
table_is_edits a b =
    rows_are a b a 0 (length a) (λ j. j) (omega arith) (λ k lt. let same : k ≡ 0 + k = omega arith in
    ap (λ n. get_or a n 0) same) (λ j le. base a b j) (length b) (omega arith)
