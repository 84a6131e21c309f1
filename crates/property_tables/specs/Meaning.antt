-- What typing makes of a module: its record, nothing, or its first fault. The crate is measured by `typed_module`. A
-- record is made of the module's entries, one after the other, groups depth first.
-- Source: Soong reference, module types and their properties; this project's profile has a part of them.
use Rattle.std.specs.Prelude.{ℕ, Bool, List, [], ◌∷◌, ◌++◌, ◌||◌, ◌&&◌, ◌==◌, nat_le, length, not, if◌then◌else◌}
use Rattle.std.specs.Prelude.{Option, Some, None, Result, Ok, Err, codes}
use Rattle.std.specs.Char.{is_ascii_alphanumeric}
use Rattle.std.specs.List.{list_all}
use Rattle.std.specs.Map.{lookup}
use Rattle.std.specs.Str.{bytes_eq}
use Rattle.bp_faults.specs.Answers.{then_do}
use Rattle.bp_faults.specs.Faults.{fault_on}
use Rattle.bp_faults.specs.declared.fault.Fault.{Fault}
use Rattle.bp_faults.specs.declared.kind.FaultKind.TheVariants.{UnknownProperty, MissingName, BadName, UnknownType}
use Rattle.bp_faults.specs.declared.limits.TheConstants.{LONGEST_MODULE_NAME}
use Rattle.bp_faults.specs.declared.place.Place.{Place}
use Rattle.bp_props.specs.Groups.{group_empty, groups_with}
use Rattle.bp_props.specs.Records.{props_empty}
use Rattle.bp_props.specs.declared.fields.Field.{Field}
use Rattle.bp_props.specs.declared.fields.Field.TheVariants as F
use Rattle.bp_props.specs.declared.fields.GroupProps.{GroupProps}
use Rattle.bp_props.specs.declared.given.Given.{Given}
use Rattle.bp_props.specs.declared.group_id.GroupId.{GroupId}
use Rattle.bp_props.specs.declared.kind.ModuleKind.{ModuleKind}
use Rattle.bp_props.specs.declared.kind.ModuleKind.TheVariants as M
use Rattle.bp_props.specs.declared.module.Module.{Module}
use Rattle.bp_props.specs.declared.props.Props.{Props}
use Rattle.bp_values.specs.Meaning.{Raw}
use Rattle.bp_values.specs.Values.{MapEntries, no_map_entry, map_entry_and, map_entries_then, MapEntry as Entry}
use Rattle.property_values.specs.declared.row.PropKind.{PropKind}
use Rattle.property_values.specs.declared.row.PropKind.TheVariants as K
use Rattle.property_values.specs.declared.fit.Fit.{Fit}
use Rattle.property_values.specs.Fits.{fit_of, map_in, group_set, props_set}
use Rattle.property_tables.specs.Tables.{Property, property_named, table_of, group_table, sanitize_table, arch_table}
use Rattle.property_tables.specs.Tables.{multilib_table, target_table}

-- The entries of a map are taken in turn, each put into what the ones before it made.
abbrev pub each_entry : {A : Type 0} → (A → Entry → Result A Fault) → A → MapEntries → Result A Fault
each_entry step made no_map_entry = Ok made
each_entry step made (map_entry_and name at value more) =
    then_do (step made (record { name = name; at = at; value = value })) (λ next. each_entry step next more)

-- A property is known, or the entry is refused.
abbrev pub property_or_unknown : Place → List ℕ → Option Property → Result Property Fault
property_or_unknown at path (Some property) = Ok property
property_or_unknown at path None = Err (fault_on UnknownProperty at path)

-- An entry is the property of its name, where the table has one.
abbrev pub property_in : List Property → List ℕ → Entry → Result Property Fault
property_in table prefix entry = property_or_unknown entry.at (prefix ++ entry.name) (property_named table entry.name)

-- Before the names in a group are the names of the groups, each with a dot.
abbrev pub inner_prefix : List ℕ → List ℕ → List ℕ
inner_prefix prefix name = prefix ++ (name ++ codes ".")

-- A group is put under the id that its property names.
abbrev pub groups_with_group : Option Field → GroupProps → List (GroupId × GroupProps) → List (GroupId × GroupProps)
groups_with_group (Some (F.Group id)) g groups = groups_with groups id g
groups_with_group effect g groups = groups

-- An entry has a property of a table, and a value that fits it, which is set.
abbrev pub entry_set : {A : Type 0} → (Option Field → Fit → A → A) → List Property → List ℕ → List ℕ → A → Entry
    → Result A Fault
entry_set set table dir prefix made entry = then_do (property_in table prefix entry)
    (λ p. then_do (fit_of dir p.effect (prefix ++ entry.name) entry p.kind) (λ fit. Ok (set p.effect fit made)))

-- A group is made of its entries, one after the other.
abbrev pub group_typed : List ℕ → List ℕ → MapEntries → Result GroupProps Fault
group_typed dir prefix entries = each_entry (entry_set group_set group_table dir prefix) group_empty entries

-- An entry of `arch`, `multilib` or `target` is a group.
abbrev pub groups_entry : List ℕ → List ℕ → List Property → List (GroupId × GroupProps) → Entry
    → Result (List (GroupId × GroupProps)) Fault
groups_entry dir prefix table groups entry = then_do (property_in table prefix entry)
    (λ p. then_do (map_in entry.at (prefix ++ entry.name) entry.value)
    (λ entries. then_do (group_typed dir (inner_prefix prefix entry.name) entries)
    (λ g. Ok (groups_with_group p.effect g groups))))

-- The groups of a table are put into those of a record.
abbrev pub groups_typed : List ℕ → List ℕ → List Property → Props → MapEntries → Result Props Fault
groups_typed dir prefix table props entries =
    then_do (each_entry (groups_entry dir prefix table) props.groups entries)
    (λ groups. Ok (record props { groups = groups }))

-- The entries of a module's group are put into its record, by the field that the group is.
abbrev pub inner_typed : List ℕ → List ℕ → Option Field → Props → MapEntries → Result Props Fault
inner_typed dir prefix (Some F.Sanitize) props entries =
    each_entry (entry_set props_set sanitize_table dir prefix) props entries
inner_typed dir prefix (Some F.Arch) props entries = groups_typed dir prefix arch_table props entries
inner_typed dir prefix (Some F.Multilib) props entries = groups_typed dir prefix multilib_table props entries
inner_typed dir prefix (Some F.Target) props entries = groups_typed dir prefix target_table props entries
inner_typed dir prefix (Some (F.Group id)) props entries = then_do (group_typed dir prefix entries)
    (λ g. Ok (record props { groups = groups_with props.groups id g }))
inner_typed dir prefix effect props entries = Ok props

-- An entry whose property is known is entered where it is a group, and else its value has to fit.
abbrev pub entry_typed : List ℕ → Option Field → Props → Entry → PropKind → Result Props Fault
entry_typed dir effect props entry K.Group = then_do (map_in entry.at entry.name entry.value)
    (λ entries. inner_typed dir (inner_prefix [] entry.name) effect props entries)
entry_typed dir effect props entry kind = then_do (fit_of dir effect entry.name entry kind)
    (λ fit. Ok (props_set effect fit props))

-- An entry of a module has a property of its kind's table.
abbrev pub module_entry : List ℕ → ModuleKind → Props → Entry → Result Props Fault
module_entry dir kind props entry = then_do (property_in (table_of kind) [] entry)
    (λ p. entry_typed dir p.effect props entry p.kind)

-- These types are built, and their modules are of these kinds.
abbrev pub types : List (List ℕ × ModuleKind)
types =
    (codes "cc_binary", M.Binary) ∷ (codes "cc_library", M.Library) ∷ (codes "cc_library_static", M.LibraryStatic) ∷
    (codes "cc_library_shared", M.LibraryShared) ∷ (codes "cc_library_headers", M.LibraryHeaders) ∷
    (codes "cc_test", M.Test) ∷ (codes "cc_defaults", M.Defaults) ∷ (codes "filegroup", M.Filegroup) ∷ []

-- Two types are dropped.
abbrev pub is_dropped : List ℕ → Bool
is_dropped name = bytes_eq name (codes "package") || bytes_eq name (codes "license")

-- A name is made of letters, digits and `_ . + - @` of ASCII.
abbrev pub is_module_name_byte : ℕ → Bool
is_module_name_byte b = is_ascii_alphanumeric b || (b == 95) || (b == 46) || (b == 43) || (b == 45) || (b == 64)

-- A directory and the one above it are named by dots.
abbrev pub is_dots : List ℕ → Bool
is_dots name = bytes_eq name (codes ".") || bytes_eq name (codes "..")

-- The name of a module has 1 to 255 such bytes, and isn't `.` or `..`.
abbrev pub is_module_name : List ℕ → Bool
is_module_name name =
    nat_le 1 (length name) && nat_le (length name) LONGEST_MODULE_NAME && list_all is_module_name_byte name
    && not (is_dots name)

-- A module is named by its property `name`, or refused.
abbrev pub name_in : Raw → Option (Given (List ℕ)) → Result (List ℕ) Fault
name_in raw None = Err (fault_on MissingName raw.at raw.kind)
name_in raw (Some name) = if is_module_name name.value then Ok name.value else Err (fault_on BadName name.at name.value)

-- A module of a kind is made of its entries first, and then of its name.
abbrev pub module_typed : Raw → List ℕ → ModuleKind → Result (Option Module) Fault
module_typed raw dir kind =
    then_do (each_entry (module_entry dir kind) props_empty (map_entries_then raw.entries no_map_entry))
    (λ props. then_do (name_in raw props.name)
    (λ name. Ok (Some (record { name = name; kind = kind; dir = dir; at = raw.at; props = props }))))

-- A module is typed by the kind of its type.
abbrev pub typed_by : Raw → List ℕ → Option ModuleKind → Result (Option Module) Fault
typed_by raw dir (Some kind) = module_typed raw dir kind
typed_by raw dir None = Err (fault_on UnknownType raw.at raw.kind)

-- A module of a file in this directory is dropped, or typed by its type.
abbrev pub typed_module : Raw → List ℕ → Result (Option Module) Fault
typed_module raw dir = if is_dropped raw.kind then Ok None else typed_by raw dir (lookup (bytes_eq raw.kind) types)
