-- The indices that are kept for a variable. No public contract speaks of it.
use Rattle.std.specs.Prelude.{ℕ, List, Option, Some, None}
use Rattle.std.specs.Ordering.{nat_cmp}
use Rattle.std.specs.Cmp.Lexicographic.{slice_cmp}
use Rattle.std.specs.BTreeMap.{get_by}
use Rattle.bp_values.specs.declared.map_indices.MapIndices.{MapIndices}
use Rattle.bp_values.specs.declared.kept_indices.KeptIndices.{KeptIndices}

-- The indices, if a variable has an entry with some.
abbrev pub if_any : Option (Option MapIndices) → Option MapIndices
if_any None = None
if_any (Some known) = known

-- The indices that are kept for a variable.
abbrev pub kept_for : KeptIndices → List ℕ → Option MapIndices
kept_for indices name = if_any (get_by (λ key. slice_cmp nat_cmp name key.now) indices.known)
