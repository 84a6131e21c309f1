use Rattle.std.proofs.Common.{◌≡◌, map}
use Rattle.std.specs.List.{fold}
use Rattle.property_values.specs.Inside.{path_and}
use Rattle.property_values.proofs.path_item.path_below.Given as goal

abbrev pub invariant-loop-part : goal.invariant-loop-part
invariant-loop-part l = l.path ≡ fold path_and l.dir (map (λ part. part.now) l.yielded)
