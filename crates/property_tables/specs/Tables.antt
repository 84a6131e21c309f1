-- The property tables: which properties the modules of each kind have, and what stands in their groups.
-- Source: Soong reference, the properties of each module type; this project's profile has a part of them.
use Rattle.std.specs.Prelude.{Option, Some, None, Bool, true, false, List, [], ◌∷◌, ℕ, ◌&&◌, find, codes, map}
use Rattle.std.specs.Prelude.{filter, not}
use Rattle.std.specs.Str.{bytes_eq}
use Rattle.std.specs.Ordering.{nat_cmp, is_lt}
use Rattle.std.specs.Cmp.Lexicographic.{slice_cmp}
use Rattle.bp_faults.specs.declared.target.Target.TheVariants as T
use Rattle.bp_props.specs.declared.kind.ModuleKind.{ModuleKind}
use Rattle.bp_props.specs.declared.fields.Field.{Field}
use Rattle.bp_props.specs.declared.fields.Field.TheVariants as F
use Rattle.bp_props.specs.declared.group_id.GroupId.{GroupId}
use Rattle.bp_props.specs.declared.group_id.GroupId.TheVariants as G
use Rattle.bp_props.specs.Kinds.{is_cc, has_both_links, may_plug_in, has_tests}
use Rattle.property_tables.specs.declared.offer.Kinds.{Kinds}
use Rattle.property_tables.specs.declared.offer.Kinds.TheVariants.{Every, Cc, Filegroup, BothLinks, PlugIns, Tests}
use Rattle.property_values.specs.declared.row.Row.{Row}
use Rattle.property_values.specs.declared.row.PropKind.{PropKind}
use Rattle.property_values.specs.declared.row.PropKind.TheVariants as K

-- A property has a name, a kind of value, and the field that it sets, if any.
pub record Property : Type 0 where
  pub name : List ℕ
  pub kind : PropKind
  pub effect : Option Field

-- A property is offered to some kinds of module, and maybe to groups.
pub record Offered : Type 0 where
  pub property : Property
  pub kinds : Kinds
  pub in_groups : Bool

-- These kinds of module have it.
abbrev pub has_kind : Kinds → ModuleKind → Bool
has_kind Every kind = true
has_kind Cc kind = is_cc kind
has_kind Filegroup kind = not (is_cc kind)
has_kind BothLinks kind = has_both_links kind
has_kind PlugIns kind = may_plug_in kind
has_kind Tests kind = has_tests kind

-- A property may set a field.
abbrev pub field : List ℕ → PropKind → Field → Property
field name kind effect = record { name = name; kind = kind; effect = Some effect }

-- A property may be a group.
abbrev pub group : List ℕ → GroupId → Property
group name id = field name K.Group (F.Group id)

-- A property of these kinds of module has no effect.
abbrev pub inert : List ℕ → PropKind → Kinds → Offered
inert name kind kinds =
    record { property = record { name = name; kind = kind; effect = None }; kinds = kinds; in_groups = false }

-- A property of these kinds of module sets a field.
abbrev pub sets : List ℕ → PropKind → Field → Kinds → Offered
sets name kind effect kinds = record { property = field name kind effect; kinds = kinds; in_groups = false }

-- So does a property that every group but `sanitize` may hold too.
abbrev pub joint : List ℕ → PropKind → Field → Kinds → Offered
joint name kind effect kinds = record { property = field name kind effect; kinds = kinds; in_groups = true }

-- Modules have these properties, by name.
abbrev pub properties : List Offered
properties =
    inert (codes "apex_available") K.Words Cc ∷ sets (codes "arch") K.Group F.Arch Cc ∷
    joint (codes "asflags") K.Flags F.Asflags Cc ∷ inert (codes "auto_gen_config") K.Bool Cc ∷
    inert (codes "c_std") K.Word Cc ∷ joint (codes "cflags") K.Flags F.Cflags Cc ∷
    sets (codes "compile_multilib") K.Multi F.CompileMultilib Cc ∷ joint (codes "conlyflags") K.Flags F.Conlyflags Cc ∷
    inert (codes "cpp_std") K.Word Cc ∷ joint (codes "cppflags") K.Flags F.Cppflags Cc ∷
    inert (codes "data") K.Words Cc ∷ sets (codes "data_bins") K.Names F.DataBins Tests ∷
    sets (codes "defaults") K.Names F.Defaults Cc ∷ sets (codes "device_supported") K.Bool F.DeviceSupported Cc ∷
    inert (codes "double_loadable") K.Bool Cc ∷ joint (codes "enabled") K.Bool F.Enabled Every ∷
    joint (codes "export_header_lib_headers") K.Names F.ExportHeaderLibHeaders Cc ∷
    joint (codes "export_include_dirs") K.Dirs F.ExportIncludeDirs Cc ∷
    joint (codes "export_shared_lib_headers") K.Names F.ExportSharedLibHeaders Cc ∷
    joint (codes "export_static_lib_headers") K.Names F.ExportStaticLibHeaders Cc ∷ inert (codes "gtest") K.Bool Cc ∷
    joint (codes "header_libs") K.Names F.HeaderLibs Cc ∷ sets (codes "host_supported") K.Bool F.HostSupported Cc ∷
    joint (codes "include_dirs") K.Dirs F.IncludeDirs Cc ∷ inert (codes "init_rc") K.Words Cc ∷
    joint (codes "ldflags") K.Flags F.Ldflags Cc ∷ inert (codes "licenses") K.Words Every ∷
    joint (codes "local_include_dirs") K.Dirs F.LocalIncludeDirs Cc ∷
    sets (codes "min_sdk_version") K.Level F.MinSdkVersion Cc ∷ sets (codes "multilib") K.Group F.Multilib Cc ∷
    sets (codes "name") K.Word F.Name Every ∷ inert (codes "native_bridge_supported") K.Bool Cc ∷
    inert (codes "owner") K.Word Cc ∷ inert (codes "path") K.Word Filegroup ∷
    sets (codes "plugin_of") K.Names F.PluginOf PlugIns ∷ inert (codes "ramdisk_available") K.Bool Cc ∷
    sets (codes "recovery") K.Bool F.Recovery Cc ∷ sets (codes "recovery_available") K.Bool F.RecoveryAvailable Cc ∷
    inert (codes "relative_install_path") K.Word Cc ∷ inert (codes "required") K.Words Cc ∷
    sets (codes "sanitize") K.Group F.Sanitize Cc ∷ inert (codes "sdk_version") K.Word Cc ∷
    sets (codes "shared") K.Group (F.Group G.Shared) BothLinks ∷ joint (codes "shared_libs") K.Names F.SharedLibs Cc ∷
    joint (codes "srcs") K.Paths F.Srcs Every ∷ sets (codes "static") K.Group (F.Group G.Static) BothLinks ∷
    joint (codes "static_libs") K.Names F.StaticLibs Cc ∷ inert (codes "stl") K.Word Cc ∷
    sets (codes "target") K.Group F.Target Cc ∷ inert (codes "test_config") K.Word Cc ∷
    sets (codes "test_per_src") K.Bool F.TestPerSrc Tests ∷ inert (codes "test_suites") K.Words Cc ∷
    inert (codes "tidy") K.Bool Cc ∷ sets (codes "vendor") K.Bool F.Vendor Cc ∷
    sets (codes "vendor_available") K.Bool F.VendorAvailable Cc ∷ inert (codes "vintf_fragments") K.Words Cc ∷
    inert (codes "visibility") K.Words Every ∷ joint (codes "whole_static_libs") K.Names F.WholeStaticLibs Cc ∷ []

-- The properties that are offered where it is meant.
abbrev pub those_of : (Offered → Bool) → List Offered → List Property
those_of is_meant offered = map (λ o. o.property) (filter is_meant offered)

-- The property table of a kind of module has what is offered to it.
abbrev pub table_of : ModuleKind → List Property
table_of kind = those_of (λ o. has_kind o.kinds kind) properties

-- Every group but `sanitize` may hold what is offered to groups.
abbrev pub group_table : List Property
group_table = those_of (λ o. o.in_groups) properties

-- `sanitize` may hold these.
abbrev pub sanitize_table : List Property
sanitize_table = field (codes "address") K.Bool F.Address ∷ field (codes "never") K.Bool F.Never ∷ []

-- `arch` may hold these groups.
abbrev pub arch_table : List Property
arch_table =
    group (codes "arm") G.ArchArm ∷ group (codes "arm64") G.ArchArm64 ∷ group (codes "riscv64") G.ArchRiscv64 ∷
    group (codes "x86") G.ArchX86 ∷ group (codes "x86_64") G.ArchX86_64 ∷ []

-- `multilib` may hold these groups.
abbrev pub multilib_table : List Property
multilib_table = group (codes "lib32") G.Lib32 ∷ group (codes "lib64") G.Lib64 ∷ []

-- `target` may hold these groups.
abbrev pub target_table : List Property
target_table =
    group (codes "android") G.Android ∷ group (codes "android_arm") (G.Named T.AndroidArm) ∷
    group (codes "android_arm64") (G.Named T.AndroidArm64) ∷ group (codes "android_x86") (G.Named T.AndroidX86) ∷
    group (codes "android_x86_64") (G.Named T.AndroidX86_64) ∷ group (codes "darwin") G.Darwin ∷
    group (codes "host") G.Host ∷ group (codes "linux") G.Linux ∷ group (codes "linux_glibc") G.LinuxGlibc ∷
    group (codes "linux_glibc_x86") (G.Named T.LinuxGlibcX86) ∷
    group (codes "linux_glibc_x86_64") (G.Named T.LinuxGlibcX86_64) ∷ group (codes "not_windows") G.NotWindows ∷
    group (codes "recovery") G.Recovery ∷ group (codes "vendor") G.Vendor ∷ group (codes "windows") G.Windows ∷ []

-- A row of the code is a property.
abbrev pub property_of : Row → Property
property_of row = record { name = row.name.now; kind = row.kind; effect = row.effect }

-- A name has its property, where the table has one.
abbrev pub property_named : List Property → List ℕ → Option Property
property_named table name = find (λ p. bytes_eq p.name name) table

-- Each name is below the next.
abbrev pub names_ascend : List Property → Bool
names_ascend [] = true
names_ascend (p ∷ []) = true
names_ascend (p ∷ q ∷ more) = is_lt (slice_cmp nat_cmp p.name q.name) && names_ascend (q ∷ more)
