-- How a record takes in one of its own groups.
use Rattle.std.specs.Option.{option_map_or}
use Rattle.bp_props.specs.declared.fields.GroupProps.{GroupProps}
use Rattle.bp_props.specs.declared.group_id.GroupId.{GroupId}
use Rattle.bp_props.specs.declared.props.Props.{Props}
use Rattle.bp_props.specs.Groups.{group_of}
use Rattle.bp_props.specs.Records.{props_appended}

-- A record with its own group of an id appended, if it has that group.
abbrev pub with_group : Props → GroupId → Props
with_group p id = option_map_or (λ (g : GroupProps). props_appended p g) (group_of p.groups id) p
