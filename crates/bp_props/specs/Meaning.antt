-- What merging makes of a scalar and of a list, by which every field of a record is merged; and what a source is.
use Rattle.std.specs.Prelude.{Bool, true, false, Option, Some, None, List, [], ◌++◌}
use Rattle.bp_props.specs.declared.given.Given.{Given}
use Rattle.bp_props.specs.declared.listed.Listed.{Listed}
use Rattle.bp_props.specs.declared.merge.Winner.{Winner}
use Rattle.bp_props.specs.declared.merge.Winner.TheVariants.{Receiver, Argument}
use Rattle.bp_props.specs.declared.source.Source.{Source}

-- The first of two is taken where it is set, else the second.
abbrev pub first_set : {A : Type 0} → Option A → Option A → Option A
first_set (Some a) b = Some a
first_set None b = b

-- A scalar of two records is the winner's where it is set, else the other's. Its place goes with it.
abbrev pub scalar_merged : {A : Type 0} → Winner → Option (Given A) → Option (Given A) → Option (Given A)
scalar_merged Receiver a b = first_set a b
scalar_merged Argument a b = first_set b a

-- A list of two records is the receiver's items and then the argument's, at the receiver's place where it has one.
abbrev pub list_merged : {A : Type 0} → Listed A → Listed A → Listed A
list_merged a b = record { items = a.items ++ b.items; at = first_set a.at b.at }

-- A list that isn't set has no items and no place.
abbrev pub list_empty : {A : Type 0} → Listed A
list_empty = record { items = []; at = None }

-- A list has other items at its place.
abbrev pub with_items : {A : Type 0} → List A → Listed A → Listed A
with_items items list = record list { items = items }

-- Restriction leaves a scalar that the kind has, and unsets any other.
abbrev pub kept_scalar : {A : Type 0} → Bool → Option (Given A) → Option (Given A)
kept_scalar true scalar = scalar
kept_scalar false scalar = None

-- Restriction leaves a list that the kind has, and unsets any other.
abbrev pub kept_list : {A : Type 0} → Bool → Listed A → Listed A
kept_list true list = list
kept_list false list = list_empty

-- A source names a module, or else it is a path.
abbrev pub names_module : Source → Bool
names_module source = source.named
