-- What is known of a map, and of the maps that stand in it, one step at a time.
use Rattle.std.proofs.Common.{rules, ◌≡◌, ℕ, zero, suc, ◌<◌, Bool, true, false, cond, List, [], ◌∷◌, ◌++◌, map, length}
use Rattle.std.proofs.Common.{Option, None, Some, option_map, refl, ap, sym, subst, ◌∙◌, arith, get_or, set, eqb}
use Rattle.std.specs.Map.{lookup}
use Rattle.std.specs.Ordering.{nat_cmp, is_eq, MatchOrdering}
use Rattle.std.specs.declared.cmp.Ordering.{Ordering}
use Rattle.std.specs.declared.cmp.Ordering.TheVariants.{Less, Equal, Greater}
use Rattle.std.proofs.lemmas.Bool.{eqb-false, eq-eqb, ne_eqb}
use Rattle.std.proofs.lemmas.Cmp.{ranked}
use Rattle.std.specs.BTreeMap.{BTreeMap, get}
use Rattle.bp_values.specs.declared.map_indices.MapIndices.{MapIndices, out-MapIndices, the_lemmas}
use Rattle.bp_values.specs.declared.map_indices.MapIndices.TheFolds.{fold_out-MapIndices}
use Rattle.bp_values.specs.declared.map_indices.MapIndices.TheViews.{roll-MapIndices, the_lemmas as the_views}
use Rattle.bp_values.specs.declared.index_table.IndexTable.{IndexTable}
use Rattle.bp_values.specs.declared.value.Entry.{Entry, out-Entry}
use Rattle.bp_values.specs.Values.{Meaning, meaning, MapEntry, map_entry_of, body}
use Rattle.bp_values.specs.IndexTable.{found_index}
use Rattle.bp_values.specs.Indices.{Search, IsIndexed, names_in}
use Rattle.bp_values.specs.MapIndices.{Way, value_there, value_below, value_under, search_then, indices_step, search_at}
use Rattle.bp_values.specs.MapIndices.{search_of, Finds, IndicesOf, AreKnown}
use Rattle.bp_values.proofs.Indices.{eqb_suc}
use Rattle.bp_values.proofs.Unite.{entries_back}
use Rattle.bp_values.proofs.Views.{value_out}

-- the search for the names of the map itself
pub search_here : (p : MapIndices) → search_at p [] ≡ Some (found_index (out-MapIndices p).names)
search_here p = ap (λ s. s []) (fold_out-MapIndices (Way → Option Search) indices_step p)

-- a value of a list is looked up, and then changed
lookup_over : {V W : Type 0} (f : V → W) (test : ℕ → Bool) (es : List (ℕ × V))
    → lookup test (map (λ e. (e.0, f e.1)) es) ≡ option_map f (lookup test es)
lookup_over f test [] = refl
lookup_over f test (e ∷ es) = by (test e.0) (lookup_over f test es)
  where
    by : (b : Bool) → lookup test (map (λ e. (e.0, f e.1)) es) ≡ option_map f (lookup test es)
        → cond b (Some (f e.1)) (lookup test (map (λ e. (e.0, f e.1)) es))
        ≡ option_map f (cond b (Some e.1) (lookup test es))
    by true rest = refl
    by false rest = rest

-- the searches for the names of the maps in it
pub search_below : (p : MapIndices) (index : ℕ) (way : Way)
    → search_at p (index ∷ way) ≡ search_of (get nat_cmp (out-MapIndices p).below index) way
search_below p index way =
    ap (λ s. s (index ∷ way)) (fold_out-MapIndices (Way → Option Search) indices_step p)
    ∙ ap (λ o. search_then o way)
    (lookup_over search_at (λ k. is_eq (nat_cmp index k)) (out-MapIndices p).below.entries)
    ∙ by (get nat_cmp (out-MapIndices p).below index)
  where
    by : (o : Option MapIndices) → search_then (option_map search_at o) way ≡ search_of o way
    by None = refl
    by (Some q) = refl

-- the indices of a map are those of its names, and what is known of its entries' values
pub names_known : (p : MapIndices) (fs : List MapEntry) → IndicesOf (Some p) (Some (body fs))
    → IsIndexed (found_index (out-MapIndices p).names) (names_in fs)
names_known p fs of =
    subst (λ (l : List MapEntry). IsIndexed (found_index (out-MapIndices p).names) (names_in l)) (entries_back fs)
    (subst (λ (s : Option Search). Finds s (Some (body fs))) (search_here p) (of []))

pub values_known : (p : MapIndices) (fs : List MapEntry) → IndicesOf (Some p) (Some (body fs))
    → AreKnown (out-MapIndices p).below fs
values_known p fs of index way =
    subst (λ (l : List MapEntry). Finds (search_of (get nat_cmp (out-MapIndices p).below index) way)
    (value_under (value_there index l) way)) (entries_back fs)
    (subst (λ (s : Option Search). Finds s (value_under (value_below (Some (body fs)) index) way))
    (search_below p index way) (of (index ∷ way)))

pub map_known : (p : MapIndices) (fs : List MapEntry) → IsIndexed (found_index (out-MapIndices p).names) (names_in fs)
    → AreKnown (out-MapIndices p).below fs → IndicesOf (Some p) (Some (body fs))
map_known p fs indexed known [] =
    subst (λ (s : Option Search). Finds s (Some (body fs))) (sym (search_here p))
    (subst (λ (l : List MapEntry). IsIndexed (found_index (out-MapIndices p).names) (names_in l))
    (sym (entries_back fs)) indexed)
map_known p fs indexed known (index ∷ way) =
    subst (λ (s : Option Search). Finds s (value_under (value_below (Some (body fs)) index) way))
    (sym (search_below p index way))
    (subst (λ (l : List MapEntry). Finds (search_of (get nat_cmp (out-MapIndices p).below index) way)
    (value_under (value_there index l) way)) (sym (entries_back fs)) (known index way))

pub made_known : (names : IndexTable) (below : BTreeMap ℕ MapIndices) (fs : List MapEntry)
    → IsIndexed (found_index names) (names_in fs) → AreKnown below fs
    → IndicesOf (Some (roll-MapIndices (record { names = names; below = below }))) (Some (body fs))
made_known names below fs indexed known =
    let made : MapIndices = roll-MapIndices (record { names = names; below = below }) in
    let same_names : (out-MapIndices made).names ≡ names = search (rules, the_lemmas, the_views) in
    let same_below : (out-MapIndices made).below ≡ below = search (rules, the_lemmas, the_views) in
    map_known made fs (subst (λ (t : IndexTable). IsIndexed (found_index t) (names_in fs)) (sym same_names) indexed)
    (subst (λ (b : BTreeMap ℕ MapIndices). AreKnown b fs) (sym same_below) known)

-- nothing is known at first
pub nothing_known : (below : BTreeMap ℕ MapIndices) (fs : List MapEntry) → below.entries ≡ [] → AreKnown below fs
nothing_known below fs none index way =
    subst (λ (es : List (ℕ × MapIndices)). Finds (search_of (lookup (λ k. is_eq (nat_cmp index k)) es) way)
    (value_under (value_there index fs) way)) (sym none) tt

-- no indices are those of no value
pub known_nowhere : (p : MapIndices) → IndicesOf (Some p) None → ⊥
known_nowhere p of = subst (λ (s : Option Search). Finds s None) (search_here p) (of [])

there_before : (index : ℕ) (fs gs : List MapEntry) (v : Meaning) → value_there index fs ≡ Some v
    → value_there index (fs ++ gs) ≡ Some v
there_before index [] gs v is = cc
there_before zero (f ∷ fs) gs v is = is
there_before (suc index) (f ∷ fs) gs v is = there_before index fs gs v is

-- entries go behind those of which something is known
pub known_before : (below : BTreeMap ℕ MapIndices) (fs gs : List MapEntry) → AreKnown below fs
    → AreKnown below (fs ++ gs)
known_before below fs gs known index = by (get nat_cmp below index) (value_there index fs) refl (known index)
  where
    by : (o : Option MapIndices) (v : Option Meaning) → value_there index fs ≡ v → IndicesOf o v
        → IndicesOf o (value_there index (fs ++ gs))
    by None v is of = λ way. tt
    by (Some p) None is of = absurd (known_nowhere p of)
    by (Some p) (Some v) is of =
        subst (λ (o : Option Meaning). IndicesOf (Some p) o) (sym (there_before index fs gs v is)) of

-- the value of an entry
pub there_at : (es : List Entry) (p : ℕ) (e : Entry) → p < length es → get_or es p e ≡ e
    → value_there p (map map_entry_of es) ≡ Some (meaning (out-Entry e).value)
there_at [] p e lt here = absurd (omega arith)
there_at (x ∷ es) zero e lt here = ap (λ y. Some (map_entry_of y).value) here ∙ ap Some (value_out e)
there_at (x ∷ es) (suc p) e lt here = there_at es p e (omega arith) here

there_set : (es : List Entry) (p i : ℕ) (new : Entry) → p < length es → value_there i (map map_entry_of (set es p new))
    ≡ cond (eqb i p) (Some (map_entry_of new).value) (value_there i (map map_entry_of es))
there_set [] p i new lt = absurd (omega arith)
there_set (x ∷ es) zero zero new lt =
    ap (λ b. cond b (Some (map_entry_of new).value) (Some (map_entry_of x).value)) (sym (eq-eqb 0 0 refl))
there_set (x ∷ es) zero (suc i) new lt =
    ap (λ b. cond b (Some (map_entry_of new).value) (value_there i (map map_entry_of es)))
    (sym (ne_eqb (suc i) 0 (λ h. omega arith)))
there_set (x ∷ es) (suc p) zero new lt =
    ap (λ b. cond b (Some (map_entry_of new).value) (Some (map_entry_of x).value))
    (sym (ne_eqb 0 (suc p) (λ h. omega arith)))
there_set (x ∷ es) (suc p) (suc i) new lt =
    there_set es p i new (omega arith)
    ∙ ap (λ b. cond b (Some (map_entry_of new).value) (value_there i (map map_entry_of es))) (sym (eqb_suc i p))

-- an index that is another isn't the query's
apart : (p i : ℕ) → eqb i p ≡ false → is_eq (nat_cmp p i) ≡ false
apart p i other = by (nat_cmp p i) (ranked p i (nat_cmp p i) refl)
  where
    by : (o : Ordering) → MatchOrdering o (p < i) (p ≡ i) (i < p) → is_eq o ≡ false
    by Less h = refl
    by Equal h = absurd (eqb-false i p other (sym h))
    by Greater h = refl

-- the value of an entry is replaced, and what is known of it
pub known_replaced : (below mid now : BTreeMap ℕ MapIndices) (es : List Entry) (p : ℕ) (new : Entry) (v : Meaning)
    (indices : Option MapIndices) → p < length es → AreKnown below (map map_entry_of es)
    → ((i : ℕ) → get nat_cmp mid i ≡ cond (is_eq (nat_cmp p i)) None (get nat_cmp below i))
    → ((i : ℕ) → get nat_cmp now i ≡ cond (eqb i p) indices (get nat_cmp mid i))
    → (map_entry_of new).value ≡ v → IndicesOf indices (Some v) → AreKnown now (map map_entry_of (set es p new))
known_replaced below mid now es p new v indices lt known taken kept value of i =
    subst (λ (o : Option Meaning). IndicesOf (get nat_cmp now i) o) (sym (there_set es p i new lt))
    (subst (λ (o : Option MapIndices). IndicesOf o
    (cond (eqb i p) (Some (map_entry_of new).value) (value_there i (map map_entry_of es)))) (sym (kept i))
    (by (eqb i p) refl))
  where
    by : (b : Bool) → eqb i p ≡ b → IndicesOf (cond b indices (get nat_cmp mid i))
        (cond b (Some (map_entry_of new).value) (value_there i (map map_entry_of es)))
    by true here = subst (λ (w : Meaning). IndicesOf indices (Some w)) (sym value) of
    by false other =
        let same : get nat_cmp mid i ≡ get nat_cmp below i =
        taken i ∙ ap (λ b. cond b None (get nat_cmp below i)) (apart p i other) in
        subst (λ (o : Option MapIndices). IndicesOf o (value_there i (map map_entry_of es))) (sym same) (known i)
