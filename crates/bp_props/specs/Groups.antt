-- A group: what sets nothing, what merging makes of two, what restriction or a test leaves; and the groups of a record.
use Rattle.std.specs.Prelude.{◌≡◌, Bool, Option, Some, None, List, [], ◌∷◌, filter}
use Rattle.std.specs.BTreeMap.{insert_entry, is_at}
use Rattle.std.specs.Map.{keys_of, lookup}
use Rattle.std.specs.List.Sorted.{IsStrictlySortedBy}
use Rattle.std.specs.declared.cmp.Ordering.{Ordering}
use Rattle.bp_props.specs.declared.group_id.GroupId.{GroupId}
use Rattle.bp_props.specs.contracts.group_id.GroupIdOrd.TheImpl as order
use Rattle.bp_props.specs.declared.fields.GroupProps.{GroupProps}
use Rattle.bp_props.specs.declared.kind.ModuleKind.{ModuleKind}
use Rattle.bp_props.specs.declared.merge.Winner.{Winner}
use Rattle.bp_props.specs.Fields.{Shape, Held, group_by}
use Rattle.bp_props.specs.Kinds.{has_field}
use Rattle.bp_props.specs.Meaning.{scalar_merged, list_merged, list_empty, with_items, kept_scalar, kept_list}

-- A group may set nothing.
abbrev pub group_empty : GroupProps
group_empty = group_by (λ shape field of. None) (λ shape field of. list_empty)

-- Two groups are merged field by field: each list, and each scalar.
abbrev pub group_merged : Winner → GroupProps → GroupProps → GroupProps
group_merged winner a b = group_by (λ shape field of. scalar_merged winner (of a) (of b))
    (λ shape field of. list_merged (of a) (of b))

-- What the kind's table has stays in a group, and the rest isn't set.
abbrev pub group_restricted : ModuleKind → GroupProps → GroupProps
group_restricted kind g = group_by (λ shape field of. kept_scalar (has_field kind field) (of g))
    (λ shape field of. kept_list (has_field kind field) (of g))

-- The items of each list of a group stay that pass a test of what such a list holds.
abbrev pub group_filtered : ((shape : Shape) → Held shape → Bool) → GroupProps → GroupProps
group_filtered test g = group_by (λ shape field of. of g)
    (λ shape field of. with_items (filter (test shape) (of g).items) (of g))

-- A group has no item but those that pass.
abbrev pub HasOnly : ((shape : Shape) → Held shape → Bool) → GroupProps → Type 0
HasOnly test g = group_filtered test g ≡ g

-- Ids are compared by their order, which is that of their list. A record has pairs of an id and its group.
abbrev pub by_id : GroupId → GroupId → Ordering
by_id = (order.ghosts).cmp

-- The ids ascend, so none comes twice.
abbrev pub Ascends : List (GroupId × GroupProps) → Type 0
Ascends groups = IsStrictlySortedBy by_id (keys_of groups)

-- An id has its group, where there is one.
abbrev pub group_of : List (GroupId × GroupProps) → GroupId → Option GroupProps
group_of groups id = lookup (is_at (by_id id)) groups

-- A group is put under its id, in place of the one that is there.
abbrev pub groups_with : List (GroupId × GroupProps) → GroupId → GroupProps → List (GroupId × GroupProps)
groups_with groups id group = insert_entry by_id groups id group

-- A group is merged into the one that a record may have already.
abbrev pub put_behind : Winner → Option GroupProps → GroupProps → GroupProps
put_behind winner (Some old) group = group_merged winner old group
put_behind winner None group = group

-- A group is merged into the one of its id, which stays where it is.
abbrev pub group_put : Winner → List (GroupId × GroupProps) → GroupId → GroupProps → List (GroupId × GroupProps)
group_put winner groups id group = groups_with groups id (put_behind winner (group_of groups id) group)

-- Of two records' groups each of the second's is merged into the first's of its id.
abbrev pub groups_merged : Winner → List (GroupId × GroupProps) → List (GroupId × GroupProps)
    → List (GroupId × GroupProps)
groups_merged winner groups [] = groups
groups_merged winner groups (e ∷ others) = groups_merged winner (group_put winner groups e.0 e.1) others

-- Two records have under one id both groups merged, or the one that is there.
abbrev pub either_merged : Winner → Option GroupProps → Option GroupProps → Option GroupProps
either_merged winner a None = a
either_merged winner a (Some b) = Some (put_behind winner a b)

-- Under each id the third record has what the first two have under it.
abbrev pub EachMerged : Winner → (a b merged : List (GroupId × GroupProps)) → Type 0
EachMerged winner a b merged = (id : GroupId)
    → group_of merged id ≡ either_merged winner (group_of a id) (group_of b id)
