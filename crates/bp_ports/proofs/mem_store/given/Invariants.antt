use Rattle.std.proofs.Common.{◌≡◌, drop}
use Rattle.std.specs.Ordering.{nat_cmp}
use Rattle.std.specs.Cmp.Lexicographic.{slice_cmp}
use Rattle.std.specs.FinMap.{find}
use Rattle.bp_ports.specs.MemStore.{entries_of}
use Rattle.bp_ports.proofs.mem_store.given.Given as goal

-- none of the files so far has the path
abbrev pub invariant-loop-file : goal.invariant-loop-file
invariant-loop-file l =
    find (slice_cmp nat_cmp) l.path (entries_of (drop l.file-index l.files))
    ≡ find (slice_cmp nat_cmp) l.path (entries_of l.files)
