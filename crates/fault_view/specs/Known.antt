-- The names that are known without a tree: module types and properties.
use Rattle.std.specs.Prelude.{ℕ, List, [], ◌∷◌, ◌++◌, map, codes, if◌then◌else◌}
use Rattle.std.specs.Str.{bytes_eq}
use Rattle.property_tables.specs.Meaning.{types}
use Rattle.property_tables.specs.Tables.{Property, properties, group_table, sanitize_table, arch_table, multilib_table}
use Rattle.property_tables.specs.Tables.{target_table}

-- The types that are built, and the two that are dropped.
abbrev pub type_names : List (List ℕ)
type_names = map (λ t. t.0) types ++ (codes "package" ∷ codes "license" ∷ [])

-- The names of some properties.
abbrev pub property_names : List Property → List (List ℕ)
property_names table = map (λ p. p.name) table

-- The properties that may stand in a group, and those of modules of any type where there is no group.
abbrev pub table_names : List ℕ → List (List ℕ)
table_names group =
    if bytes_eq group [] then property_names (map (λ o. o.property) properties)
    else if bytes_eq group (codes "sanitize") then property_names sanitize_table
    else if bytes_eq group (codes "arch") then property_names arch_table
    else if bytes_eq group (codes "multilib") then property_names multilib_table
    else if bytes_eq group (codes "target") then property_names target_table
    else property_names group_table
