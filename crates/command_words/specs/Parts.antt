-- The one or two parts of a word, as words.
use Rattle.std.specs.Prelude.{ℕ, List, [], ◌∷◌, Option, Some, None}
use Rattle.std.specs.Borrow.{Bor}

-- A first part, and a second where there is one.
abbrev pub with_second : List ℕ → Option (Bor (List ℕ)) → List (List ℕ)
with_second first None = first ∷ []
with_second first (Some second) = first ∷ second.now ∷ []

-- The words that the halves of a word are.
abbrev pub words_of_halves : Bor (List ℕ) × Option (Bor (List ℕ)) → List (List ℕ)
words_of_halves halves = with_second halves.0.now halves.1
