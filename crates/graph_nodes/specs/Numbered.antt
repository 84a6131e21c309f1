-- Lists that are made of numbered items.
use Rattle.std.specs.Prelude.{◌+◌, ◌++◌, ℕ, List, [], ◌∷◌}

-- What is made of each item by its number, one piece after another. The first item has the number k.
abbrev pub by_number : {X A : Type 0} → (ℕ → X → List A) → ℕ → List X → List A
by_number f k [] = []
by_number f k (x ∷ xs) = f k x ++ by_number f (k + 1) xs
