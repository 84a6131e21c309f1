-- Paths below directories, by their bytes. The root is the empty path.
use Rattle.std.specs.Prelude.{◌≡◌, ◌≢◌, ◌++◌, ◌==◌, ℕ, Bool, List, [], ◌∷◌}
use Rattle.std.specs.List.{list_any, slice_split}

-- The byte `/`.
abbrev pub is_slash : ℕ → Bool
is_slash c = c == 47

-- A text has a slash.
abbrev pub has_slash : List ℕ → Bool
has_slash text = list_any is_slash text

-- The names of a text are what stands between its slashes.
abbrev pub names_of : List ℕ → List (List ℕ)
names_of text = slice_split is_slash text

-- A path lies below a directory, behind which it has a slash and the rest. Every path but the root's lies below the
-- root.
abbrev pub LiesBelow : List ℕ → List ℕ → List ℕ → Type 0
LiesBelow [] path rest = (path ≡ rest) × (rest ≢ [])
LiesBelow (c ∷ cs) path rest = path ≡ (c ∷ cs) ++ 47 ∷ rest

-- The path of a name in a directory.
abbrev pub child : List ℕ → List ℕ → List ℕ
child [] name = name
child (c ∷ cs) name = (c ∷ cs) ++ 47 ∷ name
