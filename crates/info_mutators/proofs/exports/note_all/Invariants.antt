use Rattle.std.proofs.Common.{◌≡◌, take}
use Rattle.std.specs.Str.{bytes_eq}
use Rattle.indexmap.specs.IndexSet.{insert_all}
use Rattle.info_mutators.specs.Inside.{values_behind}
use Rattle.info_mutators.proofs.exports.note_all.Given as goal

abbrev pub invariant-loop-path : goal.invariant-loop-path
invariant-loop-path l =
    values_behind l.seen.keys ≡ insert_all bytes_eq (values_behind l.fn.seen.keys) (take l.path-index l.paths)
