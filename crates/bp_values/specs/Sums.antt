-- The sum of two values, by their types.
-- Source: Soong reference, "Android.bp file format", operators.
use Rattle.std.specs.Prelude.{ℕ, ℤ, ◌+ℤ◌, ◌^◌, ◌-◌, Bool, not, List, [], ◌∷◌, ◌++◌, length, filter, codes, Option, None}
use Rattle.std.specs.Prelude.{Some, Result, Ok, Err, if◌then◌else◌, nat_le, int_le, ◌&&◌, pos, negsuc}
use Rattle.std.specs.Str.{bytes_eq}
use Rattle.std.specs.List.{list_any}
use Rattle.bp_faults.specs.declared.place.Place.{Place}
use Rattle.bp_faults.specs.declared.place.Item.{Item}
use Rattle.bp_faults.specs.declared.fault.Fault.{Fault}
use Rattle.bp_faults.specs.declared.kind.FaultKind.TheVariants.{BadSum, TooMany}
use Rattle.bp_faults.specs.declared.limits.TheConstants.{LONGEST_STRING, MOST_LIST_ITEMS}
use Rattle.bp_faults.specs.Answers.{then_do}
use Rattle.bp_faults.specs.Faults.{fault_on}
use Rattle.bp_values.specs.Values.{Meaning, Truth, Number, Str, Items, Body, MapEntries, no_map_entry, map_entry_and}
use Rattle.bp_values.specs.Values.{MapEntry}
use Rattle.bp_values.specs.Values.{map_entries_of, body}

-- The word for a value's type.
abbrev pub word : Meaning → List ℕ
word (Truth b) = codes "bool"
word (Number n) = codes "integer"
word (Str text) = codes "string"
word (Items items) = codes "list"
word (Body entries) = codes "map"

-- Two values that have no sum.
unfoldable pub cannot_add : Place → Meaning → Meaning → Fault
cannot_add at a b = fault_on BadSum at (word a ++ (codes " + " ++ word b))

-- An integer of 64 bits.
abbrev pub is_i64 : ℤ → Bool
is_i64 n = int_le (negsuc (2 ^ 63 - 1)) n && int_le n (pos (2 ^ 63 - 1))

-- A list, or a fault where it is longer than the limit.
abbrev pub list_within : {X : Type 0} → ℕ → List ℕ → Place → List X → Result (List X) Fault
list_within limit what at xs = if nat_le (length xs) limit then Ok xs else Err (fault_on TooMany at what)

-- The two joined, within the limit.
abbrev pub sum_texts : Place → List ℕ → List ℕ → Result Meaning Fault
sum_texts at a b = then_do (list_within LONGEST_STRING (codes "string") at (a ++ b)) (λ c. Ok (Str c))

-- Two lists joined, within the limit.
abbrev pub sum_items : Place → List Item → List Item → Result Meaning Fault
sum_items at a b = then_do (list_within MOST_LIST_ITEMS (codes "list") at (a ++ b)) (λ c. Ok (Items c))

-- The sum of two integers, where it is one of 64 bits.
abbrev pub sum_numbers : Place → ℤ → ℤ → Result Meaning Fault
sum_numbers at a b = if is_i64 (a +ℤ b) then Ok (Number (a +ℤ b)) else Err (cannot_add at (Number a) (Number b))

-- The value of the first entry of that name.
abbrev pub value_at : List ℕ → List MapEntry → Option Meaning
value_at name [] = None
value_at name (f ∷ fs) = if bytes_eq name f.name then Some f.value else value_at name fs

-- One of the entries has the name.
abbrev pub has_name : List MapEntry → List ℕ → Bool
has_name fs name = list_any (λ f. bytes_eq name f.name) fs

-- The entries whose names the others lack.
abbrev pub others : List MapEntry → List MapEntry → List MapEntry
others fs ofs = filter (λ f. not (has_name ofs f.name)) fs

-- A value alone, or met with another.
abbrev pub combined_value : Meaning → (Meaning → Result Meaning Fault) → Option Meaning → Result Meaning Fault
combined_value value add None = Ok value
combined_value value add (Some other) = add other

-- An entry, and the entries behind it, if each has a value.
abbrev pub map_entry_then : List ℕ → Place → Result Meaning Fault → Result (List MapEntry) Fault
    → Result (List MapEntry) Fault
map_entry_then name at value more =
    then_do value (λ v. then_do more (λ fs. Ok ((record { name = name; at = at; value = v }) ∷ fs)))

-- An integer and another value.
abbrev pub sum_number : Place → ℤ → Meaning → Result Meaning Fault
sum_number at a (Number b) = sum_numbers at a b
sum_number at a b = Err (cannot_add at (Number a) b)

-- A string and another value.
abbrev pub sum_text : Place → List ℕ → Meaning → Result Meaning Fault
sum_text at a (Str b) = sum_texts at a b
sum_text at a b = Err (cannot_add at (Str a) b)

-- A list and another value.
abbrev pub sum_item : Place → List Item → Meaning → Result Meaning Fault
sum_item at a (Items b) = sum_items at a b
sum_item at a b = Err (cannot_add at (Items a) b)

-- The first map's entries, each with its sum, then the second's others.
abbrev pub sum_body : Place → MapEntries → (List MapEntry → Result (List MapEntry) Fault) → Meaning
    → Result Meaning Fault
sum_body at a each (Body b) =
    then_do (each (map_entries_of b)) (λ fs. Ok (body (fs ++ others (map_entries_of b) (map_entries_of a))))
sum_body at a each b = Err (cannot_add at (Body a) b)

abbrev mutual
  -- The sum of two values, the first of which decides by its type.
  pub sum : Place → Meaning → Meaning → Result Meaning Fault
  sum at (Truth a) b = Err (cannot_add at (Truth a) b)
  sum at (Number a) b = sum_number at a b
  sum at (Str a) b = sum_text at a b
  sum at (Items a) b = sum_item at a b
  sum at (Body a) b = sum_body at a (sum_entries at a) b

  -- Each entry of the first map has the sum for its value where the second has its name, and else stays as it is.
  pub sum_entries : Place → MapEntries → List MapEntry → Result (List MapEntry) Fault
  sum_entries at no_map_entry second = Ok []
  sum_entries at (map_entry_and name place value more) second =
      map_entry_then name place (combined_value value (sum at value) (value_at name second))
      (sum_entries at more second)
