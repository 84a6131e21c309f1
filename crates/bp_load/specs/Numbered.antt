-- The names of a table of names with numbers. No public contract speaks of it.
use Rattle.std.specs.Prelude.{ℕ, List, map}

-- The names that have a number.
abbrev pub numbered_names : List (List ℕ × ℕ) → List (List ℕ)
numbered_names pairs = map (λ pair. pair.0) pairs
