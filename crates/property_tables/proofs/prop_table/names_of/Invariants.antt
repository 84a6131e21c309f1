use Rattle.std.proofs.Common.{◌≡◌, map, take}
use Rattle.property_tables.specs.Inside.{wanted_in}
use Rattle.property_tables.proofs.prop_table.names_of.Given as goal

abbrev pub invariant-loop-offer : goal.invariant-loop-offer
invariant-loop-offer l = l.names.items ≡ map (λ p. p.name) (wanted_in l.wanted (take l.offer-index l.rows))
