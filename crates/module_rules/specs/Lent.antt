-- The properties that are given of a record, lent or shared.
use Rattle.std.specs.Arc.{arc_value}
use Rattle.bp_props.specs.declared.props.Props.{Props}
use Rattle.module_rules.specs.declared.given.GivenProps.{GivenProps}
use Rattle.module_rules.specs.declared.given.GivenProps.TheVariants.{Lent, Shared}

-- The properties themselves.
abbrev pub props_of : GivenProps → Props
props_of (Lent props) = props.now
props_of (Shared props) = arc_value props
