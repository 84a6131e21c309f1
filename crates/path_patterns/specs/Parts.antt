-- The components of a pattern, and which names they stand for.
use Rattle.std.specs.Prelude.{◌&&◌, ◌||◌, ◌++◌, ℕ, zero, suc, Bool, false, not, List, [], ◌∷◌, if◌then◌else◌}
use Rattle.std.specs.Str.{bytes_eq}
use Rattle.path_patterns.specs.Globs.{has_none, is_hidden, fits}

-- The component `**`, where others follow it, stands for up to 64 names. As a last one, which no typed module has,
-- it is like any other.
abbrev pub goes_deep : List ℕ → List (List ℕ) → Bool
goes_deep p [] = false
goes_deep p (q ∷ qs) = bytes_eq p (42 ∷ 42 ∷ [])

-- Up to so many names that aren't hidden are skipped, and the others pass.
abbrev pub deep : ℕ → (List (List ℕ) → Bool) → List (List ℕ) → Bool
deep most passes [] = passes []
deep zero passes (n ∷ ns) = passes (n ∷ ns)
deep (suc most) passes (n ∷ ns) = passes (n ∷ ns) || (not (is_hidden n) && deep most passes ns)

-- The first name fits, and the others pass.
abbrev pub first_fits : List ℕ → (List (List ℕ) → Bool) → List (List ℕ) → Bool
first_fits p passes [] = false
first_fits p passes (n ∷ ns) = fits p n && passes ns

-- The pattern's components stand for these names.
abbrev pub all_fit : List (List ℕ) → List (List ℕ) → Bool
all_fit [] names = has_none names
all_fit (p ∷ ps) names = if goes_deep p ps then deep 64 (all_fit ps) names else first_fits p (all_fit ps) names

-- Some first components of the pattern, but not all, stand for these names.
abbrev pub leads : List (List ℕ) → List (List ℕ) → Bool
leads [] names = false
leads (p ∷ ps) names =
    has_none names || (if goes_deep p ps then deep 64 (leads ps) names else first_fits p (leads ps) names)

-- What is left of a pattern behind some names: how many names may still be skipped, and then the components.
abbrev pub Rest : Type 0
Rest = ℕ × List (List ℕ)

-- One more name is skipped, if it may be.
abbrev pub skip_one : ℕ → List (List ℕ) → List ℕ → List Rest
skip_one zero ps n = []
skip_one (suc most) ps n = if is_hidden n then [] else (most, ps) ∷ []

-- What the components leave behind a name.
abbrev pub step_parts : List (List ℕ) → List ℕ → List Rest
step_parts [] n = []
step_parts (p ∷ ps) n =
    if goes_deep p ps then skip_one 64 ps n ++ step_parts ps n else if fits p n then (0, ps) ∷ [] else []

-- What is left leaves this behind a name.
abbrev pub step_rest : ℕ → List (List ℕ) → List ℕ → List Rest
step_rest most [] n = []
step_rest most (p ∷ ps) n = skip_one most (p ∷ ps) n ++ step_parts (p ∷ ps) n

-- The same of everything that is left.
abbrev pub step_all : List Rest → List ℕ → List Rest
step_all [] n = []
step_all (r ∷ rs) n = step_rest r.0 r.1 n ++ step_all rs n

-- What is left stands for these names, by what components stand for.
abbrev pub rest_fits : (List (List ℕ) → List (List ℕ) → Bool) → ℕ → List (List ℕ) → List (List ℕ) → Bool
rest_fits parts_fit most [] names = parts_fit [] names
rest_fits parts_fit most (p ∷ ps) names = deep most (parts_fit (p ∷ ps)) names

-- The same of anything that is left.
abbrev pub some_fit : (List (List ℕ) → List (List ℕ) → Bool) → List Rest → List (List ℕ) → Bool
some_fit parts_fit [] names = false
some_fit parts_fit (r ∷ rs) names = rest_fits parts_fit r.0 r.1 names || some_fit parts_fit rs names

-- Nothing is left to be fitted, so that the names so far are a match.
abbrev pub is_done : List Rest → Bool
is_done [] = false
is_done (r ∷ rs) = has_none r.1 || is_done rs

-- Something is left to be fitted, so that more names may follow.
abbrev pub has_rest : List Rest → Bool
has_rest [] = false
has_rest (r ∷ rs) = not (has_none r.1) || has_rest rs
