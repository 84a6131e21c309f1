-- The record of a module: its fields, what sets nothing, what the merging calls make of two, what restriction leaves.
use Rattle.std.specs.Prelude.{ℕ, Bool, false, None, List, [], filter}
use Rattle.bp_faults.specs.declared.ids.NodeId.{NodeId}
use Rattle.bp_props.specs.Fields.{Shape, Scalar, Items, Truth, Word, Multi, Level, Names}
use Rattle.bp_props.specs.Groups.{group_empty, group_merged, group_restricted, groups_merged}
use Rattle.bp_props.specs.Kinds.{has_field}
use Rattle.bp_props.specs.Meaning.{scalar_merged, list_merged, list_empty, kept_scalar, kept_list}
use Rattle.bp_props.specs.declared.fields.Field.TheVariants as F
use Rattle.bp_props.specs.declared.fields.Field.{Field}
use Rattle.bp_props.specs.declared.fields.GroupProps.{GroupProps}
use Rattle.bp_props.specs.declared.group_id.GroupId.{GroupId}
use Rattle.bp_props.specs.declared.kind.ModuleKind.{ModuleKind}
use Rattle.bp_props.specs.declared.merge.Winner.TheVariants.{Receiver, Argument}
use Rattle.bp_props.specs.declared.merge.Winner.{Winner}
use Rattle.bp_props.specs.declared.props.Props.{Props}

-- What the mutators compute of a record, and no file sets: `asan`, `level`, `exports`, `includes`, `line` and `slibs`.
abbrev pub Computed : Type 0
Computed = Bool × ℕ × List (List ℕ) × List (List ℕ) × List NodeId × List NodeId

-- What is computed of this record.
abbrev pub computed_of : Props → Computed
computed_of p = (p.asan, p.level, p.exports, p.includes, p.line, p.slibs)

-- A record is made of its own group, its groups and what is computed, and field by field of the rest, each of its
-- shape, its name and what a record has there.
abbrev pub props_by : ((shape : Shape) → Field → (Props → Scalar shape) → Scalar shape)
    → ((shape : Shape) → Field → (Props → Items shape) → Items shape)
    → GroupProps → List (GroupId × GroupProps) → Computed → Props
props_by scalar list base groups computed = record {
  base = base;
  groups = groups;
  name = scalar Word F.Name (λ p. p.name);
  compile_multilib = scalar Multi F.CompileMultilib (λ p. p.compile_multilib);
  host_supported = scalar Truth F.HostSupported (λ p. p.host_supported);
  device_supported = scalar Truth F.DeviceSupported (λ p. p.device_supported);
  vendor = scalar Truth F.Vendor (λ p. p.vendor);
  vendor_available = scalar Truth F.VendorAvailable (λ p. p.vendor_available);
  recovery = scalar Truth F.Recovery (λ p. p.recovery);
  recovery_available = scalar Truth F.RecoveryAvailable (λ p. p.recovery_available);
  min_sdk_version = scalar Level F.MinSdkVersion (λ p. p.min_sdk_version);
  address = scalar Truth F.Address (λ p. p.address);
  never = scalar Truth F.Never (λ p. p.never);
  test_per_src = scalar Truth F.TestPerSrc (λ p. p.test_per_src);
  defaults = list Names F.Defaults (λ p. p.defaults);
  plugin_of = list Names F.PluginOf (λ p. p.plugin_of);
  data_bins = list Names F.DataBins (λ p. p.data_bins);
  asan = computed.0;
  level = computed.1;
  exports = computed.2;
  includes = computed.3;
  line = computed.4;
  slibs = computed.5;
}

-- An empty record has nothing set, and what the mutators compute is at its start.
abbrev pub props_empty : Props
props_empty =
    props_by (λ shape field of. None) (λ shape field of. list_empty) group_empty [] (false, 10000, [], [], [], [])

-- Two records are merged field by field: each scalar, each list, and the groups. `name`, `defaults` and what the
-- mutators compute are the receiver's.
abbrev pub props_merged : Winner → Props → Props → Props
props_merged winner a b = record (props_by (λ shape field of. scalar_merged winner (of a) (of b))
    (λ shape field of. list_merged (of a) (of b)) (group_merged winner a.base b.base)
    (groups_merged winner a.groups b.groups) (computed_of a)) { name = a.name; defaults = a.defaults }

-- `append` merges a group into the fields that a group may hold, and its scalars win.
abbrev pub props_appended : Props → GroupProps → Props
props_appended a g = record a { base = group_merged Argument a.base g }

-- `follow` merges two records, and the receiver's scalars win.
abbrev pub props_followed : Props → Props → Props
props_followed a b = props_merged Receiver a b

-- `over` merges two records; the argument's scalars win, and its `name` and `defaults` are taken.
abbrev pub props_over : Props → Props → Props
props_over a b = record (props_merged Argument a b) { name = b.name; defaults = b.defaults }

-- What the kind's table has stays in a record, and the rest isn't set. What the mutators compute stays.
abbrev pub props_restricted : ModuleKind → Props → Props
props_restricted kind p = props_by (λ shape field of. kept_scalar (has_field kind field) (of p))
    (λ shape field of. kept_list (has_field kind field) (of p)) (group_restricted kind p.base)
    (filter (λ e. has_field kind (F.Group e.0)) p.groups) (computed_of p)
