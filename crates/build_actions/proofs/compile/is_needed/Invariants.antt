use Rattle.std.proofs.Common.{◌≡◌, drop}
use Rattle.std.specs.List.{list_any}
use Rattle.build_actions.specs.Inside.{is_written_in}
use Rattle.build_actions.proofs.compile.is_needed.Given as goal

abbrev pub invariant-loop-file : goal.invariant-loop-file
invariant-loop-file l =
    list_any (is_written_in l.language) (drop l.file-index l.files) ≡ list_any (is_written_in l.language) l.files
