use Rattle.std.proofs.Common.{◌≡◌, map, take, filter, not, ◌==◌, length}
use Rattle.ninja_lines.proofs.cut.words.Given as goal

-- the words among the first parts are found
abbrev pub invariant-loop-part : goal.invariant-loop-part
invariant-loop-part l =
    map (λ word. word.now) l.found.items
    ≡ filter (λ part. not (length part == 0)) (map (λ part. part.now) (take l.part-index l.parts))
