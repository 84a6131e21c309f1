use Rattle.std.proofs.Common.{map, take}
use Rattle.dir_entries.specs.Entries.{GiveEntries}
use Rattle.dir_entries.proofs.listing.given.Given as goal

-- the entries so far are those of the paths so far
abbrev pub invariant-loop-path : goal.invariant-loop-path
invariant-loop-path l =
    GiveEntries (map (λ path. path.now) (take l.path-index l.paths)) l.dir l.entries.items
