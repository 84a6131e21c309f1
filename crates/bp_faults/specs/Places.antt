-- The order of places.
use Rattle.std.specs.declared.cmp.Ordering.{Ordering}
use Rattle.std.specs.Ordering.{nat_cmp, ordering_then}
use Rattle.bp_faults.specs.declared.place.Place.{Place}

-- Places compare by file, then by line, and then by column.
abbrev pub place_cmp : Place → Place → Ordering
place_cmp a b = ordering_then (nat_cmp a.file b.file) (ordering_then (nat_cmp a.line b.line) (nat_cmp a.col b.col))
