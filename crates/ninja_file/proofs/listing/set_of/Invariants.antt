use Rattle.std.proofs.Common.{map, take}
use Rattle.std.specs.List.{IsDistinct}
use Rattle.std.specs.Str.{bytes_eq}
use Rattle.bp_names.specs.Meaning.{IsSetOf}
use Rattle.ninja_file.proofs.listing.set_of.Given as goal

-- the set has the first texts, which differ
abbrev pub invariant-loop-text : goal.invariant-loop-text
invariant-loop-text l =
    IsSetOf (take l.text-index (map (λ t. t.now) l.texts)) l.set
    × IsDistinct bytes_eq (take l.text-index (map (λ t. t.now) l.texts))
