use Rattle.std.proofs.Common.{◌≡◌, take}
use Rattle.std.specs.Str.{bytes_eq}
use Rattle.std.specs.List.{flat_map}
use Rattle.indexmap.specs.IndexSet.{insert_all}
use Rattle.bp_props.specs.declared.props.Props.{Props}
use Rattle.info_mutators.specs.Inside.{values_behind}
use Rattle.info_mutators.specs.Inside.{AreExportNames}
use Rattle.info_mutators.specs.Info.{export_part}
use Rattle.info_mutators.proofs.exports.note_all_handed_on.Given as goal

abbrev pub invariant-loop-dependency : goal.invariant-loop-dependency
invariant-loop-dependency l = (own : Props) → AreExportNames own l.names
    → values_behind l.seen.keys ≡ insert_all bytes_eq (values_behind l.fn.seen.keys)
    (flat_map (export_part own) (take l.dependency-index l.dependencies))
