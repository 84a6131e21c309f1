-- Some names in one text.
use Rattle.std.specs.Prelude.{ℕ, List, [], ◌∷◌, ◌++◌, codes}

-- Each name follows a comma.
abbrev pub after_commas : List (List ℕ) → List ℕ
after_commas [] = []
after_commas (name ∷ names) = codes ", " ++ (name ++ after_commas names)

-- The names, joined by commas.
abbrev pub comma_list : List (List ℕ) → List ℕ
comma_list [] = []
comma_list (name ∷ names) = name ++ after_commas names
