-- What follows from the definitions, as the layers above use it.
use Rattle.std.specs.Prelude.{◌≡◌, ◌↔◌, ℕ, List, Some, None, Ok, Err, IsTrue}
use Rattle.std.specs.Option.{IfSome}
use Rattle.std.specs.List.{AllByRecursion}
use Rattle.std.specs.Map.{lookup}
use Rattle.std.specs.Str.{bytes_eq}
use Rattle.bp_faults.specs.declared.fault.Fault.{Fault}
use Rattle.bp_props.specs.declared.kind.ModuleKind.{ModuleKind}
use Rattle.bp_props.specs.Kinds.{has_field}
use Rattle.bp_props.specs.Records.{props_empty}
use Rattle.bp_values.specs.Values.{map_entries_then, no_map_entry}
use Rattle.bp_values.specs.Meaning.{Raw}
use Rattle.property_tables.specs.Tables.{has_kind, properties}
use Rattle.property_tables.specs.Meaning.{each_entry, module_entry, is_dropped, types, typed_module}

-- A property stands in the table of a kind exactly where the kind has the field that it sets.
abbrev pub TablesHaveFields : Type 0
TablesHaveFields = (kind : ModuleKind)
    → AllByRecursion (λ o. IfSome o.property.effect (λ field. has_kind o.kinds kind ≡ has_field kind field)) properties

-- Exactly the modules of the types `package` and `license` are dropped.
abbrev pub DropsExactly : Type 0
DropsExactly = (raw : Raw) (dir : List ℕ) → (typed_module raw dir ≡ Ok None) ↔ IsTrue (is_dropped raw.kind)

-- The first fault of a module's entries is the module's, whatever its name.
abbrev pub EntriesComeFirst : Type 0
EntriesComeFirst = (raw : Raw) (dir : List ℕ) (kind : ModuleKind) (fault : Fault)
    → lookup (bytes_eq raw.kind) types ≡ Some kind
    → each_entry (module_entry dir kind) props_empty (map_entries_then raw.entries no_map_entry) ≡ Err fault
    → typed_module raw dir ≡ Err fault
