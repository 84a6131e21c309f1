use Rattle.std.proofs.Common.{◌≡◌, take}
use Rattle.std.specs.Str.{bytes_eq}
use Rattle.indexmap.specs.IndexSet.{insert_all}
use Rattle.info_mutators.specs.Inside.{values_behind}
use Rattle.info_mutators.specs.Kept.{if_short}
use Rattle.info_mutators.proofs.paths.note_all.Given as goal

abbrev pub invariant-loop-path : goal.invariant-loop-path
invariant-loop-path l =
    if_short (values_behind l.seen.keys)
    ≡ if_short (insert_all bytes_eq (values_behind l.fn.seen.keys) (take l.path-index l.paths))
