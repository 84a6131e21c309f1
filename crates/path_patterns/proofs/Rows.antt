-- Rows: what each end of a name answers, and how one test after another goes over them.
use Rattle.std.proofs.Common.{◌⊎◌, inl, inr, ◌≡◌, ◌≢◌, ◌<◌, ◌≤◌, ◌+◌, ◌==◌, ℕ, zero, suc, List, [], length, drop}
use Rattle.std.proofs.Common.{get_or, Bool, true, false, refl, ap, sym, ◌∙◌, arith}
use Rattle.std.specs.Prelude.{◌&&◌, ◌||◌}
use Rattle.std.proofs.Math.ListN.{set}
use Rattle.std.proofs.lemmas.List.{drop_more, drop_all, get_or-set_same, get_or-set_other}
use Rattle.path_patterns.specs.Globs.{star, next, has_none, RowOf}

-- The ends before the i-th answer by one test, and the others by another.
pub record RowFrom (low high : List ℕ → Bool) (name : List ℕ) (row : List Bool) (i : ℕ) : Type 0 where
  pub before : (k : ℕ) → k < i → get_or row k false ≡ low (drop k name)
  pub behind : (k : ℕ) → i ≤ k → k ≤ length name → get_or row k false ≡ high (drop k name)

-- A number that isn't below another is that number or above it.
pub at_or_above : (k i : ℕ) → i ≤ k → (k ≡ i) ⊎ (i < k)
at_or_above zero zero h = inl refl
at_or_above zero (suc i) h = absurd (omega arith)
at_or_above (suc k) zero h = inr (omega arith)
at_or_above (suc k) (suc i) h = by (at_or_above k i (omega arith)) where
  by : (k ≡ i) ⊎ (i < k) → (suc k ≡ suc i) ⊎ (suc i < suc k)
  by (inl e) = inl (ap suc e)
  by (inr more) = inr (omega arith)

-- All answer by the first test, and from the end on by the second, which answers the same there.
pub row_begins : (low high : List ℕ → Bool) (name : List ℕ) (row : List Bool) → high [] ≡ low []
    → RowOf low name row → RowFrom low high name row (length name)
row_begins low high name row same all = record {
  before = λ k h. all.each k (omega arith);
  behind = λ k from to. all.each k to ∙ ap low (drop_all k name from) ∙ sym same ∙ ap high (sym (drop_all k name from));
}

-- All answer by the second test.
pub row_starts : (low high : List ℕ → Bool) (name : List ℕ) (row : List Bool)
    → RowOf high name row → RowFrom low high name row zero
row_starts low high name row all = record { before = λ k h. absurd (omega arith); behind = λ k from to. all.each k to }

pub row_whole : (low high : List ℕ → Bool) (name : List ℕ) (row : List Bool)
    → RowFrom low high name row zero → RowOf high name row
row_whole low high name row r = record { each = λ k to. r.behind k (omega arith) to }

-- One more end answers by the second test.
pub row_falls : (low high : List ℕ → Bool) (name : List ℕ) (row : List Bool) (i : ℕ) (answer : Bool)
    → i < length row → answer ≡ high (drop i name) → RowFrom low high name row (i + 1)
    → RowFrom low high name (set row i answer) i
row_falls low high name row i answer inside new r = record {
  before =
      λ k h. let other : k ≢ i = omega arith in get_or-set_other row i k answer false other ∙ r.before k (omega arith);
  behind = λ k from to. by k to (at_or_above k i from);
} where
  by : (k : ℕ) → k ≤ length name → (k ≡ i) ⊎ (i < k) → get_or (set row i answer) k false ≡ high (drop k name)
  by k to (inl e) =
      ap (λ n. get_or (set row i answer) n false) e ∙ get_or-set_same row i answer false inside ∙ new
      ∙ ap (λ n. high (drop n name)) (sym e)
  by k to (inr more) =
      let other : k ≢ i = omega arith in
      get_or-set_other row i k answer false other ∙ r.behind k (omega arith) to

-- One more end answers by the first test.
pub row_rises : (low high : List ℕ → Bool) (name : List ℕ) (row : List Bool) (i : ℕ) (answer : Bool)
    → i < length row → answer ≡ low (drop i name) → RowFrom low high name row i
    → RowFrom low high name (set row i answer) (i + 1)
row_rises low high name row i answer inside new r = record {
  before = λ k h. by k (at_or_above i k (omega arith));
  behind =
      λ k from to. let other : k ≢ i = omega arith in
      get_or-set_other row i k answer false other ∙ r.behind k (omega arith) to;
} where
  by : (k : ℕ) → (i ≡ k) ⊎ (k < i) → get_or (set row i answer) k false ≡ low (drop k name)
  by k (inl e) =
      ap (λ n. get_or (set row i answer) n false) (sym e) ∙ get_or-set_same row i answer false inside ∙ new
      ∙ ap (λ n. low (drop n name)) e
  by k (inr less) =
      let other : k ≢ i = omega arith in get_or-set_other row i k answer false other ∙ r.before k less

-- What a `*` answers of an end, by that end and the next.
pub star_at : (passes : List ℕ → Bool) (name : List ℕ) (i : ℕ) → i < length name
    → star passes (drop i name) ≡ (passes (drop i name) || star passes (drop (i + 1) name))
star_at passes name i h =
    ap (star passes) (drop_more name i 0 h)
    ∙ ap (λ d. passes d || star passes (drop (i + 1) name)) (sym (drop_more name i 0 h))

pub next_at : (byte : ℕ) (passes : List ℕ → Bool) (name : List ℕ) (i : ℕ) → i < length name
    → next byte passes (drop i name) ≡ ((get_or name i 0 == byte) && passes (drop (i + 1) name))
next_at byte passes name i h = ap (next byte passes) (drop_more name i 0 h)

-- A `*` goes over one more end.
pub star_step : (passes : List ℕ → Bool) (name : List ℕ) (row : List Bool) (i : ℕ) → i < length name
    → length row ≡ length name + 1 → RowFrom passes (star passes) name row (i + 1)
    → RowFrom passes (star passes) name (set row i (get_or row i false || get_or row (i + 1) false)) i
star_step passes name row i inside long r =
    row_falls passes (star passes) name row i (get_or row i false || get_or row (i + 1) false) (omega arith)
    (ap (λ b. b || get_or row (i + 1) false) (r.before i (omega arith))
    ∙ ap (λ b. passes (drop i name) || b) (r.behind (i + 1) (omega arith) (omega arith))
    ∙ sym (star_at passes name i inside)) r

-- A byte goes over one more end.
pub byte_step : (byte : ℕ) (passes : List ℕ → Bool) (name : List ℕ) (row : List Bool) (i : ℕ) → i < length name
    → length row ≡ length name + 1 → RowFrom (next byte passes) passes name row i
    → RowFrom (next byte passes) passes name (set row i ((get_or name i 0 == byte) && get_or row (i + 1) false)) (i + 1)
byte_step byte passes name row i inside long r =
    row_rises (next byte passes) passes name row i ((get_or name i 0 == byte) && get_or row (i + 1) false) (omega arith)
    (ap (λ b. (get_or name i 0 == byte) && b) (r.behind (i + 1) (omega arith) (omega arith))
    ∙ sym (next_at byte passes name i inside)) r

-- A byte passes no empty end.
pub byte_whole : (byte : ℕ) (passes : List ℕ → Bool) (name : List ℕ) (row : List Bool)
    → length row ≡ length name + 1 → RowFrom (next byte passes) passes name row (length name)
    → RowOf (next byte passes) name (set row (length name) false)
byte_whole byte passes name row long r =
    let more = row_rises (next byte passes) passes name row (length name) false (omega arith)
    (sym (ap (next byte passes) (drop_all (length name) name (omega arith)))) r in
    record { each = λ k to. more.before k (omega arith) }

-- Only the empty end is empty.
pub nil_row : (name : List ℕ) (row : List Bool) → length row ≡ length name + 1
    → ((k : ℕ) → k < length name → get_or row k false ≡ false)
    → RowOf has_none name (set row (length name) true)
nil_row name row long none = record { each = λ k to. by k (at_or_above (length name) k to) } where
  by : (k : ℕ) → (length name ≡ k) ⊎ (k < length name)
      → get_or (set row (length name) true) k false ≡ has_none (drop k name)
  by k (inl e) =
      ap (λ n. get_or (set row (length name) true) n false) (sym e)
      ∙ get_or-set_same row (length name) true false (omega arith)
      ∙ sym (ap has_none (drop_all k name (omega arith)))
  by k (inr less) =
      let other : k ≢ length name = omega arith in
      get_or-set_other row (length name) k true false other ∙ none k less ∙ sym (ap has_none (drop_more name k 0 less))
