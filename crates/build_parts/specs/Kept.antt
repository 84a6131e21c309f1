-- Lists of texts in which none is repeated.
use Rattle.std.specs.Prelude.{ℕ, List, [], ◌∷◌, ◌++◌, if◌then◌else◌}
use Rattle.bp_names.specs.Meaning.{knows}

-- A text, unless it is one of the earlier ones.
abbrev pub new_one : List (List ℕ) → List ℕ → List (List ℕ)
new_one earlier text = if knows earlier text then [] else text ∷ []

-- The texts behind earlier ones that are none of those before them.
abbrev pub new_ones : List (List ℕ) → List (List ℕ) → List (List ℕ)
new_ones earlier [] = []
new_ones earlier (text ∷ texts) = new_one earlier text ++ new_ones (earlier ++ text ∷ []) texts

-- Of what repeats, the first is kept.
abbrev pub kept_first : List (List ℕ) → List (List ℕ)
kept_first texts = new_ones [] texts
