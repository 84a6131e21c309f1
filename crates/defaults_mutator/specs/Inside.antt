-- How records are taken one by one. No public contract speaks of it.
use Rattle.std.specs.Prelude.{List, Option, Some, None, fold}
use Rattle.bp_props.specs.declared.props.Props.{Props}
use Rattle.bp_props.specs.Records.{props_followed}
use Rattle.defaults_mutator.specs.Merged.{records_followed}

-- A record is followed by one more, or is the first.
abbrev pub one_record_more : Option Props → Props → Option Props
one_record_more None p = Some p
one_record_more (Some first) p = Some (props_followed first p)

-- What is taken so far is followed by the records that are left.
abbrev pub records_behind : Option Props → List Props → Option Props
records_behind None ps = records_followed ps
records_behind (Some first) ps = Some (fold props_followed first ps)
