use Rattle.std.proofs.Common.{◌≡◌, map, length}
use Rattle.bp_load.proofs.Listing.{Holds}
use Rattle.bp_load.proofs.list_file.files_of.Given as goal

abbrev pub invariant-loop-line : goal.invariant-loop-line
invariant-loop-line l =
    (goal.iterator-loop-line).can_next l.line-iterator ×
    (goal.iterator-loop-line).is_finite l.line-iterator ×
    (l.at ≡ length l.yielded) ×
    Holds (map (λ line. line.now) l.yielded) l.files.entries
