-- The table of a scope, seen as the list of its pairs.
use Rattle.std.proofs.Common.{◌≡◌, ℕ, suc, ◌+◌, ◌≤◌, ◌<◌, Bool, true, false, cond, List, [], ◌∷◌, map, take, length}
use Rattle.std.proofs.Common.{None, Some, option_map, is_some, refl, ap, sym, ◌∙◌, arith}
use Rattle.std.specs.Prelude.{zero, nat_lt}
use Rattle.std.proofs.lemmas.List.{length-append, length-take-le, take_all}
use Rattle.std.proofs.lemmas.Slice.Eq.{bytes_eq-Decides}
use Rattle.std.proofs.lemmas.Bool.{ltb-true, ltb-false}
use Rattle.std.specs.List.{position}
use Rattle.std.specs.Map.{keys_of}
use Rattle.std.specs.Str.{bytes_eq}
use Rattle.indexmap.specs.IndexMap.{insert_entry}
use Rattle.indexmap.proofs.MapLemmas.{Found-position, Missing-position}
use Rattle.bp_values.specs.declared.value.Value.{Value}
use Rattle.bp_values.specs.Values.{Meaning, meaning}
use Rattle.bp_values.specs.Scopes.{Pairs, pair_of, value_in}
use Rattle.bp_values.specs.Meaning.{with_new, with_other}
use Rattle.bp_values.proofs.Pairs.{lookup_pairs}
use Rattle.bp_values.proofs.Kept.{value_other}

-- a new name goes behind the others
pub inserted_new : (es : List (List ℕ × Value)) (name : List ℕ) (v : Value) → value_in (map pair_of es) name ≡ None
    → map pair_of (insert_entry bytes_eq es name v) ≡ with_new (map pair_of es) name (meaning v)
inserted_new [] name v none = refl
inserted_new (e ∷ es) name v none = by (bytes_eq name e.0) none (inserted_new es name v)
  where
    by : (b : Bool) → cond b (Some (meaning e.1)) (value_in (map pair_of es) name) ≡ None
        → (value_in (map pair_of es) name ≡ None
        → map pair_of (insert_entry bytes_eq es name v) ≡ with_new (map pair_of es) name (meaning v))
        → map pair_of (cond b ((e.0, v) ∷ es) (e ∷ insert_entry bytes_eq es name v))
        ≡ pair_of e ∷ with_new (map pair_of es) name (meaning v)
    by true none rest = cc
    by false none rest = ap (λ l. pair_of e ∷ l) (rest none)

-- a name that is there keeps its index
pub inserted_other : (es : List (List ℕ × Value)) (name : List ℕ) (v : Value)
    → is_some (value_in (map pair_of es) name) ≡ true
    → map pair_of (insert_entry bytes_eq es name v) ≡ with_other (map pair_of es) name (meaning v)
inserted_other [] name v there = cc
inserted_other (e ∷ es) name v there = by (bytes_eq name e.0) there (inserted_other es name v)
  where
    by : (b : Bool) → is_some (cond b (Some (meaning e.1)) (value_in (map pair_of es) name)) ≡ true
        → (is_some (value_in (map pair_of es) name) ≡ true
        → map pair_of (insert_entry bytes_eq es name v) ≡ with_other (map pair_of es) name (meaning v))
        → map pair_of (cond b ((e.0, v) ∷ es) (e ∷ insert_entry bytes_eq es name v))
        ≡ cond b ((e.0, meaning v) ∷ map pair_of es) (pair_of e ∷ with_other (map pair_of es) name (meaning v))
    by true there rest = refl
    by false there rest = ap (λ l. pair_of e ∷ l) (rest there)

-- a name stands first at an index
abbrev pub IsFirst : List ℕ → List (List ℕ × Value) → ℕ → Type 0
IsFirst name [] index = ⊥
IsFirst name (e ∷ es) zero = bytes_eq name e.0 ≡ true
IsFirst name (e ∷ es) (suc index) = (bytes_eq name e.0 ≡ false) × IsFirst name es index

-- one that does is one of so many first, if the index is
pub value_at_index : (es : List (List ℕ × Value)) (name : List ℕ) (index count : ℕ) → IsFirst name es index
    → ((index < count → is_some (value_in (take count (map pair_of es)) name) ≡ true)
    × (count ≤ index → is_some (value_in (take count (map pair_of es)) name) ≡ false))
value_at_index [] name index count at = absurd at
value_at_index (e ∷ es) name zero zero at = (λ less. absurd (omega arith), λ most. refl)
value_at_index (e ∷ es) name zero (suc count) at = (
  λ less. ap (λ b. is_some (cond b (Some (meaning e.1)) (value_in (take count (map pair_of es)) name))) at,
  λ most. absurd (omega arith),
)
value_at_index (e ∷ es) name (suc index) zero at = (λ less. absurd (omega arith), λ most. refl)
value_at_index (e ∷ es) name (suc index) (suc count) at =
    let rest = value_at_index es name index count at.1 in
    let skip : is_some (value_in (take (suc count) (map pair_of (e ∷ es))) name)
    ≡ is_some (value_in (take count (map pair_of es)) name) =
    ap (λ b. is_some (cond b (Some (meaning e.1)) (value_in (take count (map pair_of es)) name))) at.0 in
    (λ less. skip ∙ rest.0 (omega arith), λ most. skip ∙ rest.1 (omega arith))

pub outer_at : (es : List (List ℕ × Value)) (name : List ℕ) (index count : ℕ)
    → position (bytes_eq name) (keys_of es) ≡ Some index
    → nat_lt index count ≡ is_some (value_in (take count (map pair_of es)) name)
outer_at es name index count at = by (nat_lt index count) refl
  where
    there : (index < count → is_some (value_in (take count (map pair_of es)) name) ≡ true)
        × (count ≤ index → is_some (value_in (take count (map pair_of es)) name) ≡ false)
    there = value_at_index es name index count (Found-position (bytes_eq name) es index at).first

    by : (b : Bool) → nat_lt index count ≡ b → b ≡ is_some (value_in (take count (map pair_of es)) name)
    by true less = sym (there.0 (ltb-true index count less))
    by false most = sym (there.1 (ltb-false index count most))

-- one that stands nowhere is none of them
pub outer_nowhere : (es : List (List ℕ × Value)) (name : List ℕ) (count : ℕ)
    → position (bytes_eq name) (keys_of es) ≡ None
    → false ≡ is_some (value_in (take count (map pair_of es)) name)
outer_nowhere es name count nowhere =
    ap is_some (sym (none_outer count (map pair_of es) (sym (lookup_pairs (bytes_eq name) es)
    ∙ ap (option_map meaning) (Missing-position (bytes_eq name) es nowhere).value)))
  where
    none_outer : (n : ℕ) (ps : Pairs) → value_in ps name ≡ None → value_in (take n ps) name ≡ None
    none_outer zero ps none = refl
    none_outer (suc n) [] none = refl
    none_outer (suc n) (p ∷ ps) none = by (bytes_eq name p.0) none (none_outer n ps)
      where
        by : (b : Bool) → cond b (Some p.1) (value_in ps name) ≡ None
            → (value_in ps name ≡ None → value_in (take n ps) name ≡ None)
            → cond b (Some p.1) (value_in (take n ps) name) ≡ None
        by true none rest = cc
        by false none rest = rest none

-- of the first names the first are the same
pub outer_again : (n count : ℕ) (ps : Pairs) → n ≤ count → take n (take count ps) ≡ take n ps
outer_again zero count ps few = refl
outer_again (suc n) zero ps few = absurd (omega arith)
outer_again (suc n) (suc count) [] few = refl
outer_again (suc n) (suc count) (p ∷ ps) few = ap (λ l. p ∷ l) (outer_again n count ps (omega arith))

-- what is given to a name that isn't one of the first leaves these
pub outer_with_other : (count : ℕ) (ps : Pairs) (name : List ℕ) (v : Meaning) → value_in (take count ps) name ≡ None
    → take count (with_other ps name v) ≡ take count ps
outer_with_other zero ps name v none = refl
outer_with_other (suc count) [] name v none = refl
outer_with_other (suc count) (p ∷ ps) name v none = by (bytes_eq name p.0) none (outer_with_other count ps name v)
  where
    by : (b : Bool) → cond b (Some p.1) (value_in (take count ps) name) ≡ None
        → (value_in (take count ps) name ≡ None → take count (with_other ps name v) ≡ take count ps)
        → take (suc count) (cond b ((p.0, v) ∷ ps) (p ∷ with_other ps name v)) ≡ p ∷ take count ps
    by true none rest = cc
    by false none rest = ap (λ l. p ∷ l) (rest none)

-- another value makes a scope no longer
pub length_with_other : (ps : Pairs) (name : List ℕ) (v : Meaning) → length (with_other ps name v) ≡ length ps
length_with_other [] name v = refl
length_with_other (p ∷ ps) name v = by (bytes_eq name p.0) (length_with_other ps name v)
  where
    by : (b : Bool) → length (with_other ps name v) ≡ length ps
        → length (cond b ((p.0, v) ∷ ps) (p ∷ with_other ps name v)) ≡ suc (length ps)
    by true rest = refl
    by false rest = ap suc rest

-- a scope with one name more has as many first ones
pub length_with_new : (count : ℕ) (ps now : Pairs) (name : List ℕ) (v : Meaning) → now ≡ with_new ps name v
    → count ≤ length ps → count ≤ length now
length_with_new count ps now name v is within =
    let more : length now ≡ length ps + 1 = ap length is ∙ length-append ps ((name, v) ∷ []) in
    omega (arith, within, more)

-- a name that got another value has it
pub value_with_other : (ps now : Pairs) (name : List ℕ) (v : Meaning) {before : Meaning}
    → value_in ps name ≡ Some before → now ≡ with_other ps name v → is_some (value_in now name) ≡ true
value_with_other ps now name v {before} has put =
    ap (λ l. is_some (value_in l name)) put ∙ ap is_some (value_other name name v before ps has)
    ∙ ap (λ b. is_some (cond b (Some v) (value_in ps name))) ((bytes_eq-Decides name name).1 refl)

-- all names are the first of as many
pub outer_whole : (count : ℕ) (ps : Pairs) → count ≡ length ps → take count ps ≡ ps
outer_whole count ps is = take_all count ps (omega (arith, is))

-- so many first names of one scope, if they are those of another, are as many
pub outer_count : (m n : ℕ) (ps qs : Pairs) → m ≤ length ps → n ≤ length qs → take m ps ≡ take n qs → m ≡ n
outer_count m n ps qs in_first in_second same =
    sym (length-take-le m ps in_first) ∙ ap length same ∙ length-take-le n qs in_second
