-- Heights, and the first fault of numbered items: by height, and then by number.
use Rattle.std.specs.Prelude.{◌≡◌, ◌<◌, ◌⊎◌, ℕ, suc, max, List, [], ◌∷◌, map, Result, Ok, Err}
use Rattle.std.specs.Result.{IsOk}
use Rattle.std.specs.List.{range_with_len}
use Rattle.bp_faults.specs.declared.fault.Fault.{Fault}

-- The least height above each of some heights, and 0 where there are none.
abbrev pub above_all : List ℕ → ℕ
above_all [] = 0
above_all (h ∷ hs) = max (suc h) (above_all hs)

-- An item precedes another where it is lower, or as high and of a lesser number.
abbrev pub Precedes : (ℕ → ℕ) → ℕ → ℕ → Type 0
Precedes height m n = (height m < height n) ⊎ ((height m ≡ height n) × (m < n))

module _ {O : Type 0} where
  -- Item n has that fault, and those that precede it have none.
  pub record IsFirstByHeight (height : ℕ → ℕ) (count : ℕ) (step : ℕ → Result O Fault) (fault : Fault) (n : ℕ)
      : Type 0 where
    pub inside : n < count
    pub here : step n ≡ Err fault
    pub first : (m : ℕ) → m < count → Precedes height m n → IsOk (step m)

  -- What a step makes of all items, in the order of their numbers, or the first fault.
  abbrev pub Gathers : (ℕ → ℕ) → ℕ → (ℕ → Result O Fault) → Result (List O) Fault → Type 0
  Gathers height count step (Ok values) = map Ok values ≡ map step (range_with_len 0 count)
  Gathers height count step (Err fault) = (n : ℕ) × IsFirstByHeight height count step fault n
