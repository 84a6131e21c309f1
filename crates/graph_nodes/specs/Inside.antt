-- How a name grows. No public contract speaks of it.
use Rattle.std.specs.Prelude.{ℕ, List, [], ◌∷◌, ◌++◌, codes}

-- A name with one part more, behind `_` where both aren't empty.
abbrev pub name_with : List ℕ → List ℕ → List ℕ
name_with [] part = part
name_with (c ∷ name) [] = c ∷ name
name_with (c ∷ name) (d ∷ part) = (c ∷ name) ++ (codes "_" ++ d ∷ part)
