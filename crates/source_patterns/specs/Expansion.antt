-- The expansion of modules: each pattern in their lists of sources is replaced by the held paths that it matches. It is
-- a filter of the held paths, and nothing here walks.
use Rattle.std.specs.Prelude.{◌≡◌, ℕ, List, [], Result, Ok}
use Rattle.bp_faults.specs.declared.fault.Fault.{Fault}
use Rattle.bp_faults.specs.Phases.{Then, Phase}
use Rattle.bp_props.specs.declared.fields.GroupProps.{GroupProps}
use Rattle.bp_props.specs.declared.group_id.GroupId.{GroupId}
use Rattle.bp_props.specs.declared.module.Module.{Module}
use Rattle.bp_props.specs.declared.props.Props.{Props}
use Rattle.bp_props.specs.declared.source.Source.{Source}
use Rattle.bp_props.specs.Meaning.{with_items}
use Rattle.source_patterns.specs.Items.{ItemsMean}

-- A group has other sources.
abbrev pub group_with_sources : List Source → GroupProps → GroupProps
group_with_sources items group = record group { srcs = with_items items group.srcs }

-- In a group its list of sources is expanded.
abbrev pub GroupMeans : List (List ℕ) → List ℕ → GroupProps → Result GroupProps Fault → Type 0
GroupMeans held dir group =
    Then (ItemsMean held dir [] group.srcs.items) (λ items o. Ok (group_with_sources items group) ≡ o)

-- The same of a group under its id.
abbrev pub KeyedGroupMeans : List (List ℕ) → List ℕ → GroupId × GroupProps → Result (GroupId × GroupProps) Fault
    → Type 0
KeyedGroupMeans held dir e = Then (GroupMeans held dir e.1) (λ group o. Ok (e.0, group) ≡ o)

-- The groups of a record are expanded in their order.
abbrev pub GroupsMean : List (List ℕ) → List ℕ → List (GroupId × GroupProps)
    → Result (List (GroupId × GroupProps)) Fault → Type 0
GroupsMean held dir = Phase (λ n. KeyedGroupMeans held dir) 0

-- A record has other groups.
abbrev pub props_with_groups : Props → GroupProps → List (GroupId × GroupProps) → Props
props_with_groups props base groups = record props { base = base; groups = groups }

-- In a record what is a module's own is expanded first, and then the groups.
abbrev pub PropsMean : List (List ℕ) → List ℕ → Props → Result Props Fault → Type 0
PropsMean held dir props =
    Then (GroupMeans held dir props.base)
    (λ base. Then (GroupsMean held dir props.groups) (λ groups o. Ok (props_with_groups props base groups) ≡ o))

-- In a module its record is expanded, over its directory.
abbrev pub ModuleMeans : List (List ℕ) → Module → Result Module Fault → Type 0
ModuleMeans held m = Then (PropsMean held m.dir m.props) (λ props o. Ok (record m { props = props }) ≡ o)

-- What modules expand to over the held paths: module by module, or the first fault.
abbrev pub ExpandMeans : List (List ℕ) → List Module → Result (List Module) Fault → Type 0
ExpandMeans held = Phase (λ n. ModuleMeans held) 0
