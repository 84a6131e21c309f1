use Rattle.std.proofs.Common.{◌≡◌, ◌++◌, map, take}
use Rattle.ninja_file.proofs.listing.add_texts.Given as goal

-- the first texts are added
abbrev pub invariant-loop-text : goal.invariant-loop-text
invariant-loop-text l = map (λ t. t.now) l.list.items ≡ map (λ t. t.now) l.fn.list.items ++ take l.text-index l.texts
