-- What a pattern stands for, component by component.
use Rattle.std.specs.Prelude.{◌≡◌, ◌≤◌, ◌&&◌, ◌||◌, ◌==◌, ℕ, Bool, true, false, not, List, [], ◌∷◌}
use Rattle.std.specs.Prelude.{if◌then◌else◌, length, drop, slice_index_or}
use Rattle.std.specs.List.{list_any}

-- The byte `*`.
abbrev pub is_star : ℕ → Bool
is_star c = c == 42

-- A text has a `*`.
abbrev pub has_star : List ℕ → Bool
has_star text = list_any is_star text

-- Some end of the list passes.
abbrev pub star : (List ℕ → Bool) → List ℕ → Bool
star passes [] = passes []
star passes (c ∷ cs) = passes (c ∷ cs) || star passes cs

-- The first of the list is this one, and the others pass.
abbrev pub next : ℕ → (List ℕ → Bool) → List ℕ → Bool
next p passes [] = false
next p passes (c ∷ cs) = (c == p) && passes cs

-- A list has no element.
abbrev pub has_none : {A : Type 0} → List A → Bool
has_none [] = true
has_none (x ∷ xs) = false

-- `*` stands for any bytes, and every other byte for itself.
abbrev pub glob : List ℕ → List ℕ → Bool
glob [] name = has_none name
glob (p ∷ ps) name = if is_star p then star (glob ps) name else next p (glob ps) name

-- A component is hidden that begins with a dot.
abbrev pub is_hidden : List ℕ → Bool
is_hidden [] = false
is_hidden (c ∷ cs) = c == 46

-- A pattern's component that isn't hidden fits no hidden name.
abbrev pub fits : List ℕ → List ℕ → Bool
fits p name = glob p name && (is_hidden p || not (is_hidden name))

-- What each end of a name answers, from the whole name on.
pub record RowOf (passes : List ℕ → Bool) (name : List ℕ) (row : List Bool) : Type 0 where
  pub each : (k : ℕ) → k ≤ length name → slice_index_or row k false ≡ passes (drop k name)
