-- Lists in which nothing repeats, and their limit.
use Rattle.std.specs.Prelude.{Bool, List, [], ◌∷◌, if◌then◌else◌, reverse, length, nat_le, Option, Some, None}
use Rattle.std.specs.List.{list_any}
use Rattle.bp_faults.specs.declared.limits.TheConstants.{LONGEST_LINE}

module _ {A : Type 0} where
  -- Of what repeats in a list, the last is kept.
  abbrev pub last_of_each : (A → A → Bool) → List A → List A
  last_of_each same [] = []
  last_of_each same (x ∷ xs) = if list_any (same x) xs then last_of_each same xs else x ∷ last_of_each same xs

  -- Of what repeats in a list, the first is kept: the last, seen from the other end.
  abbrev pub first_of_each : (A → A → Bool) → List A → List A
  first_of_each same xs = reverse (last_of_each same (reverse xs))

  -- A list is short where it has no more entries than it may.
  abbrev pub is_short : List A → Bool
  is_short xs = nat_le (length xs) LONGEST_LINE

  -- There is a list where it is short.
  abbrev pub if_short : List A → Option (List A)
  if_short xs = if is_short xs then Some xs else None
