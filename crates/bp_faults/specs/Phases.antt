-- The words of phases: what one step leaves for the next, and what is found in a list, or the first fault.
use Rattle.std.specs.Prelude.{◌≡◌, ℕ, ◌+◌, ◌<◌, ⊤, List, [], ◌∷◌, length, take, Result, Ok, Err}
use Rattle.std.specs.List.{HoldsAt}
use Rattle.bp_faults.specs.declared.fault.Fault.{Fault}
use Rattle.bp_faults.specs.Answers.{then_do}

-- Each item is checked in turn, up to the first fault.
abbrev pub check_each : {X : Type 0} → (X → Result Unit Fault) → List X → Result Unit Fault
check_each check [] = Ok tt
check_each check (x ∷ xs) = then_do (check x) (λ done. check_each check xs)

-- Each item gives a value in turn, up to the first error.
abbrev pub each_in_turn : {X Y E : Type 0} → (X → Result Y E) → List X → Result (List Y) E
each_in_turn step [] = Ok []
each_in_turn step (x ∷ xs) = then_do (step x) (λ y. then_do (each_in_turn step xs) (λ ys. Ok (y ∷ ys)))

-- A meaning has this outcome alone, if it has any.
abbrev pub IsOnce : {A : Type 0} → (Result A Fault → Type 0) → Type 0
IsOnce {A} Means = (a b : Result A Fault) → Means a → Means b → a ≡ b

-- A meaning has an outcome.
abbrev pub HasOutcome : {A : Type 0} → (Result A Fault → Type 0) → Type 0
HasOutcome {A} Means = (outcome : Result A Fault) × Means outcome

-- A value goes on to the next meaning, and a fault is the outcome.
abbrev pub GoesOn : {A B : Type 0} → Result A Fault → (A → Result B Fault → Type 0) → Result B Fault → Type 0
GoesOn (Ok value) Next outcome = Next value outcome
GoesOn (Err fault) Next outcome = Err fault ≡ outcome

-- First one meaning, and then a second of its value: the first fault is the outcome.
abbrev pub Then : {A B : Type 0} → (Result A Fault → Type 0) → (A → Result B Fault → Type 0) → Result B Fault → Type 0
Then {A} First Next outcome = (first : Result A Fault) × First first × GoesOn first Next outcome

-- Each item of the first list means that of the second, where the items are numbered from n on.
abbrev pub Each : {A B : Type 0} → (ℕ → A → Result B Fault → Type 0) → ℕ → List A → List B → Type 0
Each Means n [] [] = ⊤
Each Means n [] (y ∷ ys) = ⊥
Each Means n (x ∷ xs) [] = ⊥
Each Means n (x ∷ xs) (y ∷ ys) = Means n x (Ok y) × Each Means (n + 1) xs ys

-- The fault is that of an item of the list, and each item before it has a value.
pub record IsFirstOf {A B : Type 0} (Means : ℕ → A → Result B Fault → Type 0) (n : ℕ) (xs : List A) (fault : Fault)
    : Type 0 where
  pub at : ℕ
  pub inside : at < length xs
  pub before : List B
  pub each : Each Means n (take at xs) before
  pub here : HoldsAt (λ x. Means (n + at) x (Err fault)) xs at

-- What a whole list means, whose items are numbered from n on: a value for each, or the first fault.
abbrev pub Phase : {A B : Type 0} → (ℕ → A → Result B Fault → Type 0) → ℕ → List A → Result (List B) Fault → Type 0
Phase Means n xs (Ok ys) = Each Means n xs ys
Phase Means n xs (Err fault) = IsFirstOf Means n xs fault
