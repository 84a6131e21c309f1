use Rattle.std.proofs.Common.{◌≡◌, map, take}
use Rattle.std.specs.List.{filter}
use Rattle.bp_faults.specs.declared.place.Item.{Item}
use Rattle.build_actions.specs.Compiles.{is_header}
use Rattle.build_actions.proofs.compile.listed_headers.Given as goal

-- the headers so far
abbrev pub invariant-loop-file : goal.invariant-loop-file
invariant-loop-file l =
    map (λ t. t.now) l.headers.items ≡ map (λ (file : Item). file.text) (filter is_header (take l.file-index l.files))
