-- What holds of places and of targets.
use Rattle.std.specs.Prelude.{◌≡◌}
use Rattle.std.specs.Ordering.{nat_cmp}
use Rattle.bp_faults.specs.declared.place.Place.{Place}
use Rattle.bp_faults.specs.declared.target.Target.{Target}
use Rattle.bp_faults.specs.contracts.place.PlaceOrd.TheImpl as places
use Rattle.bp_faults.specs.contracts.target.TargetOrd.TheImpl as targets
use Rattle.bp_faults.specs.Places.{place_cmp}
use Rattle.bp_faults.specs.Targets.{target_rank}

-- Places are ordered by file, then by line, and then by column.
abbrev pub PlacesAreOrdered : Type 0
PlacesAreOrdered = (a b : Place) → (places.ghosts).cmp a b ≡ place_cmp a b

-- Targets are ordered by their ranks.
abbrev pub TargetsAreOrdered : Type 0
TargetsAreOrdered = (a b : Target) → (targets.ghosts).cmp a b ≡ nat_cmp (target_rank a) (target_rank b)
