-- Paths in normal form.
use Rattle.std.specs.Prelude.{ℕ, Bool, true, false, List, [], ◌∷◌, ◌&&◌, ◌==◌, not}
use Rattle.std.specs.List.{list_all, slice_split}

-- What may be a component: it isn't empty, `.` or `..`.
abbrev pub is_component : List ℕ → Bool
is_component [] = false
is_component (a ∷ []) = not (a == 46)
is_component (a ∷ b ∷ []) = not (a == 46 && b == 46)
is_component (a ∷ b ∷ c ∷ more) = true

-- A path in normal form is the root, which is empty, or its components joined by `/`.
abbrev pub is_normal : List ℕ → Bool
is_normal [] = true
is_normal (b ∷ bs) = list_all is_component (slice_split (λ c. c == 47) (b ∷ bs))
