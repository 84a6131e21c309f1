-- No public contract speaks of it: the rows of the code, which of them are meant, and how names rank by their first
-- byte.
use Rattle.std.specs.Prelude.{ℕ, Bool, true, List, [], ◌∷◌, ◌+◌, map}
use Rattle.property_tables.specs.declared.offer.Offer.{Offer}
use Rattle.property_tables.specs.declared.offer.Wanted.TheVariants.{All, Kind, Groups}
use Rattle.property_tables.specs.declared.offer.Wanted.{Wanted}
use Rattle.property_tables.specs.Tables.{Property, Offered, has_kind, property_of, those_of}

-- A row of the code is a property that is offered.
abbrev pub offered_of : Offer → Offered
offered_of o = record { property = property_of o.row; kinds = o.kinds; in_groups = o.in_groups }

-- Of some rows all are meant, or those of a kind of module, or those of groups.
abbrev pub is_wanted : Wanted → Offered → Bool
is_wanted All o = true
is_wanted (Kind kind) o = has_kind o.kinds kind
is_wanted Groups o = o.in_groups

-- The properties of some rows that are meant.
abbrev pub wanted_in : Wanted → List Offer → List Property
wanted_in wanted rows = those_of (is_wanted wanted) (map offered_of rows)

-- A name ranks by its first byte, and the empty name below all others.
abbrev pub first_rank : List ℕ → ℕ
first_rank [] = 0
first_rank (byte ∷ more) = byte + 1
