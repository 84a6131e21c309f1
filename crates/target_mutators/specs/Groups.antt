-- How a record takes in several of its groups.
use Rattle.std.specs.Prelude.{List, fold}
use Rattle.bp_props.specs.declared.group_id.GroupId.{GroupId}
use Rattle.bp_props.specs.declared.props.Props.{Props}
use Rattle.module_rules.specs.Groups.{with_group}

-- Some groups of a record are appended to it, in order, where it has them.
abbrev pub with_groups : Props → List GroupId → Props
with_groups p ids = fold with_group p ids
