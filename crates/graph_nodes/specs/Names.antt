-- The names of variants, and the labels of nodes.
use Rattle.std.specs.Prelude.{◌&&◌, ◌||◌, ◌==◌, ℕ, Bool, true, false, List, [], ◌∷◌, ◌++◌, codes, nat_le}
use Rattle.std.specs.Prelude.{slice_index_or}
use Rattle.std.specs.List.{filter, join_by}
use Rattle.std.specs.Fmt.{decimal}
use Rattle.bp_faults.specs.Targets.{target_name}
use Rattle.graph_nodes.specs.declared.variation.Variation.{Variation}
use Rattle.graph_nodes.specs.declared.variation.Variation.TheVariants.{Empty, Target, Common, Vendor, Recovery}
use Rattle.graph_nodes.specs.declared.variation.Variation.TheVariants.{Static, Shared, PerSource, Asan}

-- How a variation is spelled: a target by its name, the variant of a source by its number from 1.
abbrev pub spelling : Variation → List ℕ
spelling Empty = []
spelling (Target target) = target_name target
spelling Common = codes "common"
spelling Vendor = codes "vendor"
spelling Recovery = codes "recovery"
spelling Static = codes "static"
spelling Shared = codes "shared"
spelling (PerSource source) = codes "t" ++ decimal source
spelling Asan = codes "asan"

-- A variation is set unless it is the empty one.
abbrev pub is_set : Variation → Bool
is_set Empty = false
is_set variation = true

-- The name of a variant: the spellings of the variations that aren't empty, joined by `_`.
abbrev pub variant_name_of : List Variation → List ℕ
variant_name_of variations = join_by spelling (codes "_") (filter is_set variations)

-- A variant's name in braces, unless it is empty.
abbrev pub braced_name : List ℕ → List ℕ
braced_name [] = []
braced_name (c ∷ name) = codes "{" ++ ((c ∷ name) ++ codes "}")

-- The label of a node: the name of its module, and behind it the name of its variant in braces.
abbrev pub label_of : List ℕ → List Variation → List ℕ
label_of name variations = name ++ braced_name (variant_name_of variations)

-- The letters a to z, the digits and `_`.
abbrev pub is_label_byte : ℕ → Bool
is_label_byte c = (nat_le 97 c && nat_le c 122) || ((nat_le 48 c && nat_le c 57) || (c == 95))

-- The name of node n in a list of names by node number, and the empty one beyond the list.
abbrev pub name_at : List (List ℕ) → ℕ → List ℕ
name_at names n = slice_index_or names n []
