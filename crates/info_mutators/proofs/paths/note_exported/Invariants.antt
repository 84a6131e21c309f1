use Rattle.std.proofs.Common.{◌≡◌, take}
use Rattle.std.specs.Str.{bytes_eq}
use Rattle.std.specs.List.{flat_map}
use Rattle.indexmap.specs.IndexSet.{insert_all}
use Rattle.info_mutators.specs.Info.{include_part}
use Rattle.info_mutators.specs.Inside.{values_behind}
use Rattle.info_mutators.specs.Kept.{if_short}
use Rattle.info_mutators.proofs.paths.note_exported.Given as goal

abbrev pub invariant-loop-dependency : goal.invariant-loop-dependency
invariant-loop-dependency l =
    if_short (values_behind l.seen.keys) ≡ if_short (insert_all bytes_eq (values_behind l.fn.seen.keys)
    (flat_map include_part (take l.dependency-index l.dependencies)))
