-- Which sources are patterns, and what one stands for below the directory of its module.
use Rattle.std.specs.Prelude.{◌≡◌, ◌++◌, ◌==◌, ◌&&◌, ℕ, Bool, true, not, List, [], ◌∷◌, if◌then◌else◌, codes, Result}
use Rattle.std.specs.Prelude.{Ok, Err}
use Rattle.bp_faults.specs.declared.fault.Fault.{Fault}
use Rattle.bp_faults.specs.declared.kind.FaultKind.TheVariants.{TooMany}
use Rattle.bp_faults.specs.Faults.{fault_on}
use Rattle.bp_props.specs.declared.source.Source.{Source}
use Rattle.bp_props.specs.Meaning.{names_module}
use Rattle.path_patterns.specs.Globs.{has_star}
use Rattle.path_patterns.specs.Matches.{AreMatches, IsWide, IsWalked}

-- What a text has behind another; nothing where it doesn't begin with that.
abbrev pub tail_behind : List ℕ → List ℕ → List ℕ
tail_behind [] text = text
tail_behind (c ∷ cs) [] = []
tail_behind (c ∷ cs) (d ∷ text) = if d == c then tail_behind cs text else []

-- What a path has behind a directory, of which the root is the empty path; nothing where it doesn't lie below it.
abbrev pub tail_below : List ℕ → List ℕ → List ℕ
tail_below [] path = path
tail_below (c ∷ cs) path = tail_behind ((c ∷ cs) ++ 47 ∷ []) path

-- The components of a source behind the directory.
abbrev pub tail_of : List ℕ → Source → List ℕ
tail_of dir source = tail_below dir source.item.text

-- A source is a pattern: a path that has `*` behind the directory.
abbrev pub is_pattern : List ℕ → Source → Bool
is_pattern dir source = not (names_module source) && has_star (tail_of dir source)

-- A pattern has its matches, or a fault where some walked directory has too many entries.
abbrev pub FoundMeans : List (List ℕ) → List ℕ → Source → Result (List (List ℕ)) Fault → Type 0
FoundMeans held dir source (Ok found) =
    AreMatches held dir (tail_of dir source) found × (IsWide held dir (tail_of dir source) → ⊥)
FoundMeans held dir source (Err fault) =
    IsWide held dir (tail_of dir source) × (fault ≡ fault_on TooMany source.item.at (codes "entries"))

-- A directory is walked for a pattern.
abbrev pub WalksFor : List ℕ → Source → List ℕ → Type 0
WalksFor dir source walked = (is_pattern dir source ≡ true) × IsWalked dir (tail_of dir source) walked
