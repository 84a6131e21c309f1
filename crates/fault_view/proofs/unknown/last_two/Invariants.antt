use Rattle.std.proofs.Common.{◌≡◌, [], drop, map}
use denote.Text.{Utf8}
use denote.Shadow.{shadow}
use Rattle.fault_view.specs.Unknown.{last_two}
use Rattle.fault_view.proofs.unknown.last_two.Given as goal

-- the parts that are left have the same last two
abbrev pub invariant-loop-part : goal.invariant-loop-part
invariant-loop-part l =
    shadow (Utf8 l.group) × shadow (Utf8 l.name)
    × (last_two l.group l.name (map (λ part. part.now) (drop l.part-index l.parts))
    ≡ last_two [] [] (map (λ part. part.now) l.parts))
