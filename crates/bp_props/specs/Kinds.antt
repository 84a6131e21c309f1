-- Which kind of module has which field: the property tables' last column.
use Rattle.std.specs.Prelude.{Bool, true, false}
use Rattle.bp_props.specs.declared.kind.ModuleKind.{ModuleKind}
use Rattle.bp_props.specs.declared.kind.ModuleKind.TheVariants.{Library, LibraryShared, Test, Defaults, Filegroup}
use Rattle.bp_props.specs.declared.fields.Field.{Field}
use Rattle.bp_props.specs.declared.fields.Field.TheVariants as F
use Rattle.bp_props.specs.declared.group_id.GroupId.TheVariants as G

-- Every kind but `filegroup` is built from C or C++.
abbrev pub is_cc : ModuleKind → Bool
is_cc Filegroup = false
is_cc kind = true

-- Some kinds are built both static and shared.
abbrev pub has_both_links : ModuleKind → Bool
has_both_links Library = true
has_both_links Defaults = true
has_both_links kind = false

-- Some kinds may be a plugin of another.
abbrev pub may_plug_in : ModuleKind → Bool
may_plug_in Library = true
may_plug_in LibraryShared = true
may_plug_in Defaults = true
may_plug_in kind = false

-- Some kinds have what tests alone have.
abbrev pub has_tests : ModuleKind → Bool
has_tests Test = true
has_tests Defaults = true
has_tests kind = false

-- The table says which kind has which field.
abbrev pub has_field : ModuleKind → Field → Bool
has_field kind F.Name = true
has_field kind F.Enabled = true
has_field kind F.Srcs = true
has_field kind (F.Group G.Static) = has_both_links kind
has_field kind (F.Group G.Shared) = has_both_links kind
has_field kind F.PluginOf = may_plug_in kind
has_field kind F.TestPerSrc = has_tests kind
has_field kind F.DataBins = has_tests kind
has_field kind field = is_cc kind
