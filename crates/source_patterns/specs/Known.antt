-- A set of texts as the paths of items. No public contract speaks of it.
use Rattle.std.specs.Prelude.{◌≡◌, ℕ, List}
use Rattle.std.specs.List.{list_any}
use Rattle.std.specs.BTreeMap.{is_at}
use Rattle.std.specs.Ordering.{nat_cmp}
use Rattle.std.specs.Cmp.Lexicographic.{slice_cmp}
use Rattle.bp_props.specs.declared.source.Source.{Source}
use Rattle.source_patterns.specs.Items.{has_path}

-- The set has the paths of the items, and no others.
abbrev pub KnowsPaths : List (List ℕ) → List Source → Type 0
KnowsPaths paths items = (path : List ℕ) → list_any (is_at (slice_cmp nat_cmp path)) paths ≡ has_path items path
