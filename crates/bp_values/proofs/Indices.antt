-- What the indices of names say of a sum of two maps.
use Rattle.std.proofs.Common.{◌≡◌, ℕ, zero, suc, ◌+◌, ◌<◌, ◌≤◌, Bool, true, false, not, cond, ◌||◌, List, [], ◌∷◌, ◌++◌}
use Rattle.std.proofs.Common.{length, map, filter, Option, None, Some, option_map, is_some, Result, Ok, Err, refl, ap}
use Rattle.std.proofs.Common.{sym, ◌∙◌, arith, get_or, take, set, eqb, subst, true≢false}
use Rattle.std.specs.Option.{option_or}
use Rattle.std.specs.Str.{bytes_eq}
use Rattle.std.specs.Map.{lookup, keys_of}
use Rattle.std.specs.List.{AllByRecursion}
use Rattle.std.specs.List.Sorted.{IsStrictlySortedBy}
use Rattle.std.specs.Ordering.{nat_cmp, is_eq, MatchOrdering}
use Rattle.std.specs.declared.cmp.Ordering.{Ordering}
use Rattle.std.specs.declared.cmp.Ordering.TheVariants.{Less, Equal, Greater}
use Rattle.std.specs.Cmp.Lexicographic.{nat_list_eq_equiv}
use Rattle.std.proofs.lemmas.Slice.Eq.{bytes_eq-Decides}
use Rattle.std.proofs.lemmas.Bool.{eqb-true, eqb-false, eq-eqb, ne_eqb}
use Rattle.std.proofs.lemmas.Cmp.{ranked}
use Rattle.std.specs.Cmp.{nat_cmp_is}
use Rattle.std.proofs.lemmas.List.{map-append, length-map, length-take-le, take_all}
use Rattle.bp_faults.specs.declared.place.Place.{Place}
use Rattle.bp_faults.specs.declared.fault.Fault.{Fault}
use Rattle.bp_faults.specs.declared.refusal.Refusal.{Refusal}
use Rattle.bp_faults.specs.declared.refusal.Refusal.TheVariants.{Bad, OutOfMemory}
use Rattle.bp_faults.specs.Answers.{then_do, Refuses}
use Rattle.bp_values.specs.declared.value.Value.{Value}
use Rattle.bp_values.specs.declared.value.Entry.{Entry, out-Entry}
use Rattle.bp_values.specs.Values.{Meaning, meaning, MapEntry, map_entry_of, map_entries_then, no_map_entry, body}
use Rattle.bp_values.specs.Sums.{sum, sum_entries, map_entry_then, combined_value, value_at, has_name, others}
use Rattle.bp_values.specs.Indices.{Search, names_in, index_in, AreApart, IsIndexed, is_index, value_for}
use Rattle.bp_values.specs.Indices.{unindexed_entries, sum_at_each, sum_at}
use Rattle.bp_values.proofs.Views.{entry_out}
use Rattle.bp_values.proofs.Steps.{map_take_more}
use Rattle.bp_values.proofs.Unite.{sum_bodies}

-- no value is added
pub sum_none : (at : Place) (fs : List MapEntry) (g : ℕ → Option Meaning) → ((i : ℕ) → g i ≡ None)
    → sum_at_each at fs g ≡ Ok fs
sum_none at [] g none = refl
sum_none at (f ∷ fs) g none =
    λ i. map_entry_then f.name f.at (combined_value f.value (sum at f.value) (none 0 i))
    (sum_none at fs (λ k. g (suc k)) (λ k. none (suc k)) i)

-- of the values that are left, that at the first index is added first
pub sum_next : (at : Place) (fs : List MapEntry) (p : ℕ) (v : Meaning) (g h : ℕ → Option Meaning)
    → ((i : ℕ) → i < p → g i ≡ None) → g p ≡ Some v → ((i : ℕ) → i ≤ p → h i ≡ None) → ((i : ℕ) → p < i → g i ≡ h i)
    → sum_at_each at fs g ≡ then_do (sum_at at fs p v) (λ gs. sum_at_each at gs h)
sum_next at [] p v g h below here none above = refl
sum_next at (f ∷ fs) zero v g h below here none above =
    ap (λ o.
    map_entry_then f.name f.at (combined_value f.value (sum at f.value) o) (sum_at_each at fs (λ i. g (suc i))))
    here
    ∙ by (sum at f.value v)
  where
    by : (r : Result Meaning Fault) → map_entry_then f.name f.at r (sum_at_each at fs (λ i. g (suc i)))
        ≡ then_do (then_do r (λ w. Ok ((record { name = f.name; at = f.at; value = w }) ∷ fs)))
        (λ gs. sum_at_each at gs h)
    by (Err e) = refl
    by (Ok w) =
        λ j. map_entry_then f.name f.at (combined_value w (sum at w) (sym (none 0 (omega arith)) j))
        (sum_at_each at fs (λ i. above (suc i) (omega arith) j))
sum_next at (f ∷ fs) (suc p) v g h below here none above =
    ap (λ o.
    map_entry_then f.name f.at (combined_value f.value (sum at f.value) o) (sum_at_each at fs (λ i. g (suc i))))
    (below 0 (omega arith))
    ∙ ap (λ r. map_entry_then f.name f.at (Ok f.value) r)
    (sum_next at fs p v (λ i. g (suc i)) (λ i. h (suc i)) (λ i lt. below (suc i) (omega arith)) here
    (λ i le. none (suc i) (omega arith)) (λ i lt. above (suc i) (omega arith)))
    ∙ by (sum_at at fs p v)
  where
    by : (r : Result (List MapEntry) Fault)
        → map_entry_then f.name f.at (Ok f.value) (then_do r (λ gs. sum_at_each at gs (λ i. h (suc i))))
        ≡ then_do (then_do r (λ gs. Ok (f ∷ gs))) (λ gs. sum_at_each at gs h)
    by (Err e) = refl
    by (Ok gs) =
        λ j. map_entry_then f.name f.at (combined_value f.value (sum at f.value) (sym (none 0 (omega arith)) j))
        (sum_at_each at gs (λ i. h (suc i)))

-- sums keep the names
pub sum_keeps : (at : Place) (fs gs : List MapEntry) (g : ℕ → Option Meaning) → sum_at_each at fs g ≡ Ok gs
    → names_in gs ≡ names_in fs
sum_keeps at [] gs g is =
    let same : [] ≡ gs = cc in
    ap names_in (sym same)
sum_keeps at (f ∷ fs) gs g is =
    by (combined_value f.value (sum at f.value) (g 0)) (sum_at_each at fs (λ i. g (suc i)))
    (λ hs. sum_keeps at fs hs (λ i. g (suc i))) is
  where
    by : (r : Result Meaning Fault) (s : Result (List MapEntry) Fault)
        → ((hs : List MapEntry) → s ≡ Ok hs → names_in hs ≡ names_in fs)
        → map_entry_then f.name f.at r s ≡ Ok gs → names_in gs ≡ names_in (f ∷ fs)
    by (Err e) s rest is = cc
    by (Ok v) (Err e) rest is = cc
    by (Ok v) (Ok hs) rest is =
        let same : (record { name = f.name; at = f.at; value = v }) ∷ hs ≡ gs = cc in
        ap names_in (sym same) ∙ ap (λ l. f.name ∷ l) (rest hs refl)

pub eqb_suc : (p i : ℕ) → eqb (suc p) (suc i) ≡ eqb p i
eqb_suc p i = by (eqb p i) refl
  where
    by : (b : Bool) → eqb p i ≡ b → eqb (suc p) (suc i) ≡ b
    by true e = let same : p ≡ i = eqb-true p i e in eq-eqb (suc p) (suc i) (ap suc same)
    by false e = ne_eqb (suc p) (suc i) (λ h. eqb-false p i e (omega arith))

-- the value for the first name's index
first_value : (name : List ℕ) (names : List (List ℕ)) (fs : List MapEntry)
    → value_for (index_in (name ∷ names)) 0 fs ≡ value_at name fs
first_value name names [] = refl
first_value name names (f ∷ fs) =
    by (bytes_eq f.name name) (index_in names f.name) (first_value name names fs)
    ∙ ap (λ b. cond b (Some f.value) (value_at name fs)) (nat_list_eq_equiv.symm f.name name)
  where
    by : (b : Bool) (r : Option ℕ) → value_for (index_in (name ∷ names)) 0 fs ≡ value_at name fs
        → cond (is_index (cond b (Some 0) (option_map suc r)) 0) (Some f.value)
        (value_for (index_in (name ∷ names)) 0 fs) ≡ cond b (Some f.value) (value_at name fs)
    by true r rest = refl
    by false None rest = rest
    by false (Some i) rest =
        ap (λ b. cond b (Some f.value) (value_for (index_in (name ∷ names)) 0 fs)) (ne_eqb (suc i) 0 (λ h. omega arith))
        ∙ rest

-- the values for the other indices
other_values : (name : List ℕ) (names : List (List ℕ)) (fs : List MapEntry) (i : ℕ) → index_in names name ≡ None
    → value_for (index_in (name ∷ names)) (suc i) fs ≡ value_for (index_in names) i fs
other_values name names [] i none = refl
other_values name names (f ∷ fs) i none =
    by (bytes_eq f.name name) refl (index_in names f.name) refl (other_values name names fs i none)
  where
    by : (b : Bool) → bytes_eq f.name name ≡ b → (r : Option ℕ) → index_in names f.name ≡ r
        → value_for (index_in (name ∷ names)) (suc i) fs ≡ value_for (index_in names) i fs
        → cond (is_index (cond b (Some 0) (option_map suc r)) (suc i)) (Some f.value) (value_for
        (index_in (name ∷ names)) (suc i) fs) ≡ cond (is_index r i) (Some f.value) (value_for (index_in names) i fs)
    by true same None is rest =
        ap (λ b. cond b (Some f.value) (value_for (index_in (name ∷ names)) (suc i) fs))
        (ne_eqb 0 (suc i) (λ h. omega arith))
        ∙ rest
    by true same (Some p) is rest =
        let never : index_in names f.name ≡ None = ap (index_in names) ((bytes_eq-Decides f.name name).0 same) ∙ none in
        cc
    by false same None is rest = rest
    by false same (Some p) is rest =
        ap (λ b. cond b (Some f.value) (value_for (index_in (name ∷ names)) (suc i) fs)) (eqb_suc p i)
        ∙ ap (λ r. cond (eqb p i) (Some f.value) r) rest

-- the sums at the indices are those by the names
by_indices : (at : Place) (fs second : List MapEntry) → AreApart (names_in fs) → sum_at_each at fs
    (λ i. value_for (index_in (names_in fs)) i second) ≡ sum_entries at (map_entries_then fs no_map_entry) second
by_indices at [] second apart = refl
by_indices at (f ∷ fs) second apart =
    (λ j.
    map_entry_then f.name f.at (combined_value f.value (sum at f.value) (first_value f.name (names_in fs) second j))
    (sum_at_each at fs (λ i. other_values f.name (names_in fs) second i apart.0 j)))
    ∙ ap (λ r. map_entry_then f.name f.at (combined_value f.value (sum at f.value) (value_at f.name second)) r)
    (by_indices at fs second apart.1)

pub sums_by_names : (at : Place) (search : Search) (fs second : List MapEntry) (g : ℕ → Option Meaning)
    → IsIndexed search (names_in fs) → ((i : ℕ) → g i ≡ value_for search i second)
    → sum_at_each at fs g ≡ sum_entries at (map_entries_then fs no_map_entry) second
sums_by_names at search fs second g indexed same =
    ap (λ h. sum_at_each at fs h) (λ j i. same i j)
    ∙ ap (λ s. sum_at_each at fs (λ i. value_for s i second)) (λ j q. indexed.indices q j)
    ∙ by_indices at fs second indexed.apart

has_indexed : (name : List ℕ) (fs : List MapEntry) → is_some (index_in (names_in fs) name) ≡ has_name fs name
has_indexed name [] = refl
has_indexed name (f ∷ fs) = by (bytes_eq name f.name) (index_in (names_in fs) name) (has_indexed name fs)
  where
    by : (b : Bool) (r : Option ℕ) → is_some r ≡ has_name fs name
        → is_some (cond b (Some 0) (option_map suc r)) ≡ (b || has_name fs name)
    by true r e = refl
    by false None e = e
    by false (Some i) e = e

pub others_unindexed : (search : Search) (first second : List MapEntry) → IsIndexed search (names_in first)
    → unindexed_entries search second ≡ others second first
others_unindexed search first second indexed =
    ap (λ (test : List ℕ → Bool). filter (λ f. not (test f.name)) second)
    (λ j q. (ap is_some (indexed.indices q) ∙ has_indexed q first) j)

-- an index is within the names
index_within : (names : List (List ℕ)) (name : List ℕ) (i : ℕ) → index_in names name ≡ Some i → i < length names
index_within [] name i is = cc
index_within (first ∷ names) name i is = by (bytes_eq name first) (index_in names name) (index_within names name) is
  where
    by : (b : Bool) (r : Option ℕ) → ((j : ℕ) → r ≡ Some j → j < length names)
        → cond b (Some 0) (option_map suc r) ≡ Some i → i < suc (length names)
    by true r rest is = let here : i ≡ 0 = cc in omega arith
    by false None rest is = cc
    by false (Some j) rest is = let here : i ≡ suc j = cc in let k = rest j refl in omega arith

-- behind the last index there is no value
pub none_behind : (search : Search) (names : List (List ℕ)) (fs : List MapEntry) (i : ℕ) → IsIndexed search names
    → length names ≤ i → value_for search i fs ≡ None
none_behind search names [] i indexed le = refl
none_behind search names (f ∷ fs) i indexed le =
    by (search f.name) (indexed.indices f.name) (none_behind search names fs i indexed le)
  where
    test : (p : ℕ) (b : Bool) → eqb p i ≡ b → p < i → b ≡ false
    test p true e lt = let same : p ≡ i = eqb-true p i e in absurd (omega arith)
    test p false e lt = refl

    by : (r : Option ℕ) → r ≡ index_in names f.name → value_for search i fs ≡ None
        → cond (is_index r i) (Some f.value) (value_for search i fs) ≡ None
    by None is rest = rest
    by (Some p) is rest =
        let within = index_within names f.name p (sym is) in
        ap (λ b. cond b (Some f.value) (value_for search i fs)) (test p (eqb p i) refl (omega arith)) ∙ rest

-- one name more, behind the others
index_push : (names : List (List ℕ)) (name q : List ℕ)
    → index_in (names ++ name ∷ []) q ≡ option_or (index_in names q) (cond (bytes_eq q name) (Some (length names)) None)
index_push [] name q = refl
index_push (first ∷ names) name q = by (bytes_eq q first) (index_in names q) (bytes_eq q name) (index_push names name q)
  where
    by : (b : Bool) (r : Option ℕ) (c : Bool)
        → index_in (names ++ name ∷ []) q ≡ option_or r (cond c (Some (length names)) None)
        → cond b (Some 0) (option_map suc (index_in (names ++ name ∷ []) q))
        ≡ option_or (cond b (Some 0) (option_map suc r)) (cond c (Some (suc (length names))) None)
    by true r c rest = refl
    by false None true rest = ap (λ o. option_map suc o) rest
    by false None false rest = ap (λ o. option_map suc o) rest
    by false (Some i) c rest = ap (λ o. option_map suc o) rest

not_first : (name first : List ℕ) (names : List (List ℕ)) → index_in (first ∷ names) name ≡ None
    → (bytes_eq name first ≡ false) × (index_in names name ≡ None)
not_first name first names none = by (bytes_eq name first) (index_in names name) none
  where
    by : (b : Bool) (r : Option ℕ) → cond b (Some 0) (option_map suc r) ≡ None → (b ≡ false) × (r ≡ None)
    by true r none = cc
    by false None none = (refl, refl)
    by false (Some i) none = cc

apart_push : (names : List (List ℕ)) (name : List ℕ) → AreApart names → index_in names name ≡ None
    → AreApart (names ++ name ∷ [])
apart_push [] name apart none = (refl, tt)
apart_push (first ∷ names) name apart none =
    let other = not_first name first names none in (
      index_push names name first
          ∙ ap (λ o. option_or o (cond (bytes_eq first name) (Some (length names)) None)) apart.0
          ∙ ap (λ b. cond b (Some (length names)) None) (nat_list_eq_equiv.symm first name ∙ other.0),
      apart_push names name apart.1 other.1,
    )

pub indexed_more : (old new : Search) (names now : List (List ℕ)) (name : List ℕ) (n : ℕ) → IsIndexed old names
    → old name ≡ None → n ≡ length names
    → ((q : List ℕ) → new q ≡ cond (bytes_eq name q) (Some n) (old q)) → now ≡ names ++ name ∷ [] → IsIndexed new now
indexed_more old new names now name n indexed none count learned is = subst (λ ns. IsIndexed new ns) (sym is) (record {
  indices = λ q. learned q ∙ by q (bytes_eq name q) refl ∙ sym (index_push names name q);
  apart = apart_push names name indexed.apart (sym (indexed.indices name) ∙ none);
})
  where
    or_none : (o : Option ℕ) → o ≡ option_or o None
    or_none None = refl
    or_none (Some i) = refl

    by : (q : List ℕ) (b : Bool) → bytes_eq name q ≡ b
        → cond b (Some n) (old q) ≡ option_or (index_in names q) (cond (bytes_eq q name) (Some (length names)) None)
    by q true same =
        let lacks : index_in names q ≡ None =
        ap (index_in names) (sym ((bytes_eq-Decides name q).0 same)) ∙ sym (indexed.indices name) ∙ none in
        ap Some count
        ∙ sym ((λ j. option_or (lacks j) (cond (nat_list_eq_equiv.symm q name j) (Some (length names)) None))
        ∙ ap (λ b. cond b (Some (length names)) None) same)
    by q false other =
        indexed.indices q ∙ or_none (index_in names q)
        ∙ ap (λ b. option_or (index_in names q) (cond b (Some (length names)) None))
        (sym (nat_list_eq_equiv.symm q name ∙ other))

-- where the value of an entry is replaced by its sum
pub replaced : (at : Place) (es : List Entry) (p : ℕ) (other w : Meaning) (e new : Entry) → p < length es
    → get_or es p e ≡ e → sum at (meaning (out-Entry e).value) other ≡ Ok w
    → map_entry_of new ≡ record { name = (out-Entry e).name; at = (out-Entry e).at; value = w }
    → sum_at at (map map_entry_of es) p other ≡ Ok (map map_entry_of (set es p new))
replaced at [] p other w e new lt here is made = absurd (omega arith)
replaced at (x ∷ es) zero other w e new lt here is made =
    ap (λ f. then_do (sum at f.value other)
    (λ v. Ok ((record { name = f.name; at = f.at; value = v }) ∷ map map_entry_of es)))
    (ap map_entry_of here ∙ entry_out e)
    ∙ ap (λ r.
    then_do r
    (λ v. Ok ((record { name = (out-Entry e).name; at = (out-Entry e).at; value = v }) ∷ map map_entry_of es))) is
    ∙ ap (λ f. Ok (f ∷ map map_entry_of es)) (sym made)
replaced at (x ∷ es) (suc p) other w e new lt here is made =
    ap (λ r. then_do r (λ gs. Ok (map_entry_of x ∷ gs))) (replaced at es p other w e new (omega arith) here is made)

-- where it has no sum
not_replaced : (at : Place) (es : List Entry) (p : ℕ) (other : Meaning) (e : Entry) (fault : Fault) → p < length es
    → get_or es p e ≡ e → sum at (meaning (out-Entry e).value) other ≡ Err fault
    → sum_at at (map map_entry_of es) p other ≡ Err fault
not_replaced at [] p other e fault lt here is = absurd (omega arith)
not_replaced at (x ∷ es) zero other e fault lt here is =
    ap (λ f. then_do (sum at f.value other)
    (λ v. Ok ((record { name = f.name; at = f.at; value = v }) ∷ map map_entry_of es)))
    (ap map_entry_of here ∙ entry_out e)
    ∙ ap (λ r.
    then_do r
    (λ v. Ok ((record { name = (out-Entry e).name; at = (out-Entry e).at; value = v }) ∷ map map_entry_of es))) is
not_replaced at (x ∷ es) (suc p) other e fault lt here is =
    ap (λ r. then_do r (λ gs. Ok (map_entry_of x ∷ gs))) (not_replaced at es p other e fault (omega arith) here is)

pub refused_at : (at : Place) (es : List Entry) (p : ℕ) (other : Meaning) (e : Entry) (refusal : Refusal)
    → p < length es → get_or es p e ≡ e → Refuses refusal (sum at (meaning (out-Entry e).value) other)
    → Refuses refusal (sum_at at (map map_entry_of es) p other)
refused_at at es p other e (Bad fault) lt here is = not_replaced at es p other e fault lt here is
refused_at at es p other e OutOfMemory lt here is = tt

none_of : (o : Option ℕ) → is_some o ≡ false → o ≡ None
none_of None h = refl
none_of (Some n) h = cc

-- one entry more, which no search found before
pub indexed_entry : (old new : Search) (es : List Entry) (i : ℕ) (e : Entry) → i < length es → e ≡ get_or es i e
    → IsIndexed old (names_in (map map_entry_of (take i es))) → is_some (old (map_entry_of e).name) ≡ false
    → ((q : List ℕ) → new q ≡ cond (bytes_eq (map_entry_of e).name q) (Some i) (old q))
    → IsIndexed new (names_in (map map_entry_of (take (i + 1) es)))
indexed_entry old new es i e lt is indexed missed learned =
    let done : List MapEntry = map map_entry_of (take i es) in
    let count : length (names_in done) ≡ i =
    length-map done (λ (f : MapEntry). f.name)
    ∙ length-map (take i es) map_entry_of
    ∙ length-take-le i es (omega arith) in
    indexed_more old new (names_in done) (names_in (map map_entry_of (take (i + 1) es))) (map_entry_of e).name i indexed
    (none_of (old (map_entry_of e).name) missed) (sym count) learned
    (ap names_in (map_take_more map_entry_of es i e lt)
    ∙ map-append (λ (f : MapEntry). f.name) done (map_entry_of (get_or es i e) ∷ [])
    ∙ ap (λ x. names_in done ++ (map_entry_of x).name ∷ []) (sym is))

-- all entries have been gone through
pub indexed_all : (search : Search) (es : List Entry) (i : ℕ) → length es ≤ i
    → IsIndexed search (names_in (map map_entry_of (take i es))) → IsIndexed search (names_in (map map_entry_of es))
indexed_all search es i le indexed =
    subst (λ l. IsIndexed search (names_in (map map_entry_of l))) (take_all i es le) indexed

-- the entries with their sums have the same indices
pub indexed_summed : (at : Place) (search : Search) (first summed : List MapEntry) (g : ℕ → Option Meaning)
    → IsIndexed search (names_in first) → sum_at_each at first g ≡ Ok summed → IsIndexed search (names_in summed)
indexed_summed at search first summed g indexed is =
    subst (λ ns. IsIndexed search ns) (sym (sum_keeps at first summed g is)) indexed

-- the sum of two maps, once the shared values are added and the others put behind
pub indexed_sum : (at : Place) (search : Search) (first second summed left all : List MapEntry) (g : ℕ → Option Meaning)
    → IsIndexed search (names_in first) → ((i : ℕ) → g i ≡ value_for search i second)
    → left ≡ unindexed_entries search second → all ≡ summed ++ left → sum_at_each at first g ≡ Ok summed
    → sum at (body first) (body second) ≡ Ok (body all)
indexed_sum at search first second summed left all g indexed values others_are is each =
    sum_bodies at first second
    ∙ ap (λ r. then_do r (λ hs. Ok (body (hs ++ others second first))))
    (sym (sums_by_names at search first second g indexed values) ∙ each)
    ∙ ap (λ l. Ok (body (summed ++ l))) (sym (others_are ∙ others_unindexed search first second indexed))
    ∙ ap (λ l. Ok (body l)) (sym is)

-- where the shared values have no sum, the maps have none
indexed_fault : (at : Place) (search : Search) (first second : List MapEntry) (g : ℕ → Option Meaning) (fault : Fault)
    → IsIndexed search (names_in first) → ((i : ℕ) → g i ≡ value_for search i second)
    → sum_at_each at first g ≡ Err fault → sum at (body first) (body second) ≡ Err fault
indexed_fault at search first second g fault indexed values each =
    sum_bodies at first second
    ∙ ap (λ r. then_do r (λ hs. Ok (body (hs ++ others second first))))
    (sym (sums_by_names at search first second g indexed values) ∙ each)

pub indexed_refusal : (at : Place) (search : Search) (first second : List MapEntry) (g : ℕ → Option Meaning)
    (refusal : Refusal) → IsIndexed search (names_in first) → ((i : ℕ) → g i ≡ value_for search i second)
    → Refuses refusal (sum_at_each at first g) → Refuses refusal (sum at (body first) (body second))
indexed_refusal at search first second g (Bad fault) indexed values refused =
    indexed_fault at search first second g fault indexed values refused
indexed_refusal at search first second g OutOfMemory indexed values refused = tt

-- what a list of indices with values has for an index
abbrev pub value_left : List (ℕ × Value) → ℕ → Option Meaning
value_left left i = option_map meaning (lookup (λ k. is_eq (nat_cmp i k)) left)

pub above : (p i : ℕ) (left : List (ℕ × Value)) → AllByRecursion (λ k. nat_cmp p k ≡ Less) (keys_of left) → i ≤ p
    → value_left left i ≡ None
above p i [] all le = refl
above p i (e ∷ left) all le =
    let lt : p < e.0 = ranked p e.0 Less (sym all.0) in
    ap (λ o. option_map meaning (cond (is_eq o) (Some e.1) (lookup (λ k. is_eq (nat_cmp i k)) left)))
    (sym (nat_cmp_is i e.0 Less (omega arith)))
    ∙ above p i left all.1 le

-- the value at the first index that is left is added
pub sum_left : (at : Place) (fs : List MapEntry) (left rest : List (ℕ × Value)) (p : ℕ) (v : Value)
    → left ≡ (p, v) ∷ rest
    → IsStrictlySortedBy nat_cmp (keys_of left)
    → sum_at_each at fs (value_left left)
    ≡ then_do (sum_at at fs p (meaning v)) (λ gs. sum_at_each at gs (value_left rest))
unfolding IsStrictlySortedBy
sum_left at fs left rest p v is sorted =
    let sorted2 : IsStrictlySortedBy nat_cmp (keys_of ((p, v) ∷ rest)) =
    subst (λ (l : List (ℕ × Value)). IsStrictlySortedBy nat_cmp (keys_of l)) is sorted in
    ap (λ l. sum_at_each at fs (value_left l)) is
    ∙ sum_next at fs p (meaning v) (value_left ((p, v) ∷ rest)) (value_left rest)
    (λ i lt. ap (λ o. option_map meaning (cond (is_eq o) (Some v) (lookup (λ k. is_eq (nat_cmp i k)) rest)))
    (sym (nat_cmp_is i p Less lt))
    ∙ above p i rest sorted2.0 (omega arith))
    (ap (λ o. option_map meaning (cond (is_eq o) (Some v) (lookup (λ k. is_eq (nat_cmp p k)) rest)))
    (sym (nat_cmp_is p p Equal refl)))
    (λ i le. above p i rest sorted2.0 le)
    (λ i lt. ap (λ o. option_map meaning (cond (is_eq o) (Some v) (lookup (λ k. is_eq (nat_cmp i k)) rest)))
    (sym (nat_cmp_is i p Greater lt)))

pub sorted_left : (left rest : List (ℕ × Value)) (p : ℕ) (v : Value) → left ≡ (p, v) ∷ rest
    → IsStrictlySortedBy nat_cmp (keys_of left) → IsStrictlySortedBy nat_cmp (keys_of rest)
unfolding IsStrictlySortedBy
sorted_left left rest p v is sorted =
    let sorted2 : IsStrictlySortedBy nat_cmp (keys_of ((p, v) ∷ rest)) =
    subst (λ (l : List (ℕ × Value)). IsStrictlySortedBy nat_cmp (keys_of l)) is sorted in
    sorted2.1

-- the indices that are left are within the entries
pub within_left : (left rest : List (ℕ × Value)) (p : ℕ) (v : Value) (n : ℕ) → left ≡ (p, v) ∷ rest
    → IsStrictlySortedBy nat_cmp (keys_of left) → ((i : ℕ) → n ≤ i → value_left left i ≡ None)
    → (p < n) × ((i : ℕ) → n ≤ i → value_left rest i ≡ None)
within_left left rest p v n is sorted within =
    let lt : p < n = first_in (nat_cmp p n) (ranked p n (nat_cmp p n) refl) in
    (lt, λ i le. sym (rest_at i (omega arith)) ∙ within i le)
  where
    rest_at : (i : ℕ) → p < i → value_left left i ≡ value_left rest i
    rest_at i lt =
        ap (λ l. value_left l i) is
        ∙ ap (λ o. option_map meaning (cond (is_eq o) (Some v) (lookup (λ k. is_eq (nat_cmp i k)) rest)))
        (sym (nat_cmp_is i p Greater lt))

    here : value_left left p ≡ Some (meaning v)
    here =
        ap (λ l. value_left l p) is
        ∙ ap (λ o. option_map meaning (cond (is_eq o) (Some v) (lookup (λ k. is_eq (nat_cmp p k)) rest)))
        (sym (nat_cmp_is p p Equal refl))

    first_in : (o : Ordering) → MatchOrdering o (p < n) (p ≡ n) (n < p) → p < n
    first_in Less h = h
    first_in Equal h = absurd (true≢false (ap is_some (sym here ∙ within p (omega arith))))
    first_in Greater h = absurd (true≢false (ap is_some (sym here ∙ within p (omega arith))))
