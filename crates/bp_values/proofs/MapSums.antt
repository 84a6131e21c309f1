-- The loop that adds the shared values of two maps, index by index.
use Rattle.std.proofs.Common.{◌≡◌, ℕ, ◌<◌, ◌≤◌, Bool, true, false, cond, List, [], ◌∷◌, map, length, Option, None, Some}
use Rattle.std.proofs.Common.{option_map, Ok, refl, ap, sym, subst, ◌∙◌, arith}
use Rattle.std.specs.Prelude.{IfSome, max}
use Rattle.std.specs.Map.{lookup, keys_of}
use Rattle.std.specs.List.Sorted.{IsStrictlySortedBy}
use Rattle.std.specs.Ordering.{nat_cmp, is_eq, MatchOrdering}
use Rattle.std.specs.declared.cmp.Ordering.{Ordering}
use Rattle.std.specs.declared.cmp.Ordering.TheVariants.{Less, Equal, Greater}
use Rattle.std.specs.BTreeMap.{BTreeMap}
use Rattle.std.specs.Cmp.{nat_cmp_is}
use Rattle.std.proofs.lemmas.Cmp.{ranked}
use Rattle.std.proofs.Math.Nat.{le-max_left, le-max_right}
use Rattle.bp_faults.specs.Answers.{then_do, Refuses}
use Rattle.bp_faults.specs.declared.refusal.Refusal.{Refusal}
use Rattle.bp_faults.specs.declared.refusal.Refusal.TheVariants.{Bad, OutOfMemory}
use Rattle.bp_faults.specs.declared.place.Place.{Place}
use Rattle.bp_values.specs.declared.map_indices.MapIndices.{MapIndices}
use Rattle.bp_values.specs.declared.value.Entry.{Entry}
use Rattle.bp_values.specs.declared.value.Value.{Value}
use Rattle.bp_values.specs.Values.{Meaning, meaning, MapEntry, map_entry_of, map_entries_then, no_map_entry}
use Rattle.bp_values.specs.Depths.{depth, depth_of_entries}
use Rattle.bp_values.specs.Indices.{Search, is_index, value_for, sum_at_each, sum_at}
use Rattle.bp_values.specs.MapIndices.{AreKnown}
use Rattle.bp_values.proofs.Indices.{value_left, above, sum_left, sorted_left, within_left, sum_none}

-- a value of a list of entries is no deeper than the deepest
value_depth : (search : Search) (i : ℕ) (fs : List MapEntry)
    → IfSome (value_for search i fs) (λ v. depth v ≤ depth_of_entries (map_entries_then fs no_map_entry))
value_depth search i [] = tt
value_depth search i (f ∷ fs) = by (is_index (search f.name) i) (value_for search i fs) (value_depth search i fs)
  where
    by : (b : Bool) (o : Option Meaning) → IfSome o (λ v. depth v ≤ depth_of_entries (map_entries_then fs no_map_entry))
        → IfSome (cond b (Some f.value) o)
        (λ v. depth v ≤ max (depth f.value) (depth_of_entries (map_entries_then fs no_map_entry)))
    by true o rest = le-max_left (depth f.value) (depth_of_entries (map_entries_then fs no_map_entry))
    by false None rest = tt
    by false (Some v) rest =
        let more = le-max_right (depth f.value) (depth_of_entries (map_entries_then fs no_map_entry)) in
        omega (arith, more, rest)

-- what is left to add, once the values before are added
pub record SumsLeft (at : Place) (search : Search) (first second : List MapEntry) (entries : List Entry)
    (below : BTreeMap ℕ MapIndices) (left : List (ℕ × Value)) : Type 0 where
  pub sums : sum_at_each at first (λ i. value_for search i second)
      ≡ sum_at_each at (map map_entry_of entries) (value_left left)
  pub sorted : IsStrictlySortedBy nat_cmp (keys_of left)
  pub within : (i : ℕ) → length entries ≤ i → value_left left i ≡ None
  pub shallow : (i : ℕ)
      → IfSome (value_left left i) (λ v. depth v ≤ depth_of_entries (map_entries_then second no_map_entry))
  pub known : AreKnown below (map map_entry_of entries)

pub sums_begin : (at : Place) (search : Search) (second : List MapEntry) (entries : List Entry)
    (below : BTreeMap ℕ MapIndices) (left : List (ℕ × Value))
    → ((i : ℕ) → value_left left i ≡ value_for search i second)
    → IsStrictlySortedBy nat_cmp (keys_of left) → ((i : ℕ) → length entries ≤ i → value_for search i second ≡ None)
    → AreKnown below (map map_entry_of entries)
    → SumsLeft at search (map map_entry_of entries) second entries below left
sums_begin at search second entries below left same sorted within known = record {
  sums = ap (λ g. sum_at_each at (map map_entry_of entries) g) (λ j i. sym (same i) j);
  sorted = sorted;
  within = λ i le. same i ∙ within i le;
  shallow =
      λ i.
      subst (λ (o : Option Meaning). IfSome o (λ v. depth v ≤ depth_of_entries (map_entries_then second no_map_entry)))
      (sym (same i)) (value_depth search i second);
  known = known;
}

-- the value at the first index that is left
first_left : (left rest : List (ℕ × Value)) (p : ℕ) (v : Value) → left ≡ (p, v) ∷ rest
    → value_left left p ≡ Some (meaning v)
first_left left rest p v is =
    ap (λ l. value_left l p) is
    ∙ ap (λ o. option_map meaning (cond (is_eq o) (Some v) (lookup (λ k. is_eq (nat_cmp p k)) rest)))
    (sym (nat_cmp_is p p Equal refl))

-- what holds of the values that are left holds of those behind the first
left_stays : (left rest : List (ℕ × Value)) (p : ℕ) (v : Value) (i : ℕ) (P : Meaning → Type 0) → left ≡ (p, v) ∷ rest
    → IsStrictlySortedBy nat_cmp (keys_of left)
    → IfSome (value_left left i) P → IfSome (value_left rest i) P
unfolding IsStrictlySortedBy
left_stays left rest p v i P is sorted has =
    let sorted2 : IsStrictlySortedBy nat_cmp (keys_of ((p, v) ∷ rest)) =
    subst (λ (l : List (ℕ × Value)). IsStrictlySortedBy nat_cmp (keys_of l)) is sorted in
    by (nat_cmp i p) (ranked i p (nat_cmp i p) refl) (λ le. above p i rest sorted2.0 le)
  where
    by : (o : Ordering) → MatchOrdering o (i < p) (i ≡ p) (p < i) → (i ≤ p → value_left rest i ≡ None)
        → IfSome (value_left rest i) P
    by Less h none = subst (λ (o : Option Meaning). IfSome o P) (sym (none (omega arith))) tt
    by Equal h none = subst (λ (o : Option Meaning). IfSome o P) (sym (none (omega arith))) tt
    by Greater h none =
        let same : value_left left i ≡ value_left rest i =
        ap (λ l. value_left l i) is
        ∙ ap (λ o. option_map meaning (cond (is_eq o) (Some v) (lookup (λ k. is_eq (nat_cmp i k)) rest)))
        (sym (nat_cmp_is i p Greater h)) in
        subst (λ (o : Option Meaning). IfSome o P) same has

-- the depth of the value at the first index that is left, which is within the entries
pub depth_left : {at : Place} {search : Search} {first second : List MapEntry} {entries : List Entry} {below : BTreeMap
    ℕ
    MapIndices} {left : List (ℕ × Value)} (rest : List (ℕ × Value)) (p : ℕ) (v : Value)
    → left ≡ (p, v) ∷ rest → SumsLeft at search first second entries below left
    → (depth (meaning v) ≤ depth_of_entries (map_entries_then second no_map_entry)) × (p < length entries)
depth_left {second = second} {entries = entries} {left = left} rest p v is sums = (
  subst (λ (o : Option Meaning). IfSome o (λ w. depth w ≤ depth_of_entries (map_entries_then second no_map_entry)))
      (first_left left rest p v is) (sums.shallow p),
  (within_left left rest p v (length entries) is sums.sorted sums.within).0,
)

-- the value at the first index is added
pub sums_next : (at : Place) (search : Search) (first second : List MapEntry) (entries now : List Entry)
    (below later : BTreeMap ℕ MapIndices) (left rest : List (ℕ × Value)) (p : ℕ) (v : Value)
    → left ≡ (p, v) ∷ rest → SumsLeft at search first second entries below left
    → sum_at at (map map_entry_of entries) p (meaning v) ≡ Ok (map map_entry_of now) → length now ≡ length entries
    → AreKnown later (map map_entry_of now) → SumsLeft at search first second now later rest
sums_next at search first second entries now below later left rest p v is sums one len known = record {
  sums =
      sums.sums
      ∙ sum_left at (map map_entry_of entries) left rest p v is sums.sorted
      ∙ ap (λ r. then_do r (λ gs. sum_at_each at gs (value_left rest))) one;
  sorted = sorted_left left rest p v is sums.sorted;
  within = λ i le. (within_left left rest p v (length entries) is sums.sorted sums.within).1 i (omega (arith, len, le));
  shallow =
      λ i.
      left_stays left rest p v i (λ w. depth w ≤ depth_of_entries (map_entries_then second no_map_entry)) is sums.sorted
      (sums.shallow i);
  known = known;
}

-- where it has no sum, the maps have none
pub sums_stop : (at : Place) (search : Search) (first second : List MapEntry) (entries : List Entry)
    (below : BTreeMap ℕ MapIndices) (left rest : List (ℕ × Value)) (p : ℕ) (v : Value) (e : Refusal)
    → left ≡ (p, v) ∷ rest → SumsLeft at search first second entries below left
    → Refuses e (sum_at at (map map_entry_of entries) p (meaning v))
    → Refuses e (sum_at_each at first (λ i. value_for search i second))
sums_stop at search first second entries below left rest p v (Bad fault) is sums refused =
    sums.sums
    ∙ sum_left at (map map_entry_of entries) left rest p v is sums.sorted
    ∙ ap (λ r. then_do r (λ gs. sum_at_each at gs (value_left rest))) refused
sums_stop at search first second entries below left rest p v OutOfMemory is sums refused = tt

-- all values are added
pub sums_done : (at : Place) (search : Search) (first second : List MapEntry) (entries : List Entry)
    (below : BTreeMap ℕ MapIndices) (left : List (ℕ × Value)) → left ≡ []
    → SumsLeft at search first second entries below left
    → sum_at_each at first (λ i. value_for search i second) ≡ Ok (map map_entry_of entries)
sums_done at search first second entries below left is sums =
    sums.sums
    ∙ ap (λ l. sum_at_each at (map map_entry_of entries) (value_left l)) is
    ∙ sum_none at (map map_entry_of entries) (value_left []) (λ i. refl)
