-- A scope while it is copied: what the copy has so far, and what is left.
use Rattle.std.proofs.Common.{◌≡◌, ℕ, suc, List, [], ◌∷◌, ◌++◌, map, take, drop, length, Some, None, is_some, false}
use Rattle.std.proofs.Common.{refl, ap, sym, ◌∙◌, arith, Option}
use Rattle.std.specs.Prelude.{zero, slice_get}
use Rattle.std.specs.List.{IsDistinct}
use Rattle.std.specs.Map.{keys_of}
use Rattle.std.specs.Str.{bytes_eq}
use Rattle.std.proofs.lemmas.List.{length-append}
use Rattle.std.proofs.lemmas.Cmp.{nat_list_eq_equiv}
use Rattle.indexmap.proofs.RemoveLemmas.{own_first}
use Rattle.bp_values.specs.declared.value.Value.{Value}
use Rattle.bp_values.specs.Values.{Meaning, meaning}
use Rattle.bp_values.specs.Scopes.{Pairs, pair_of, value_in}
use Rattle.bp_values.specs.Meaning.{with_new}
use Rattle.bp_values.proofs.Scopes.{value_at_index}

-- the first entry that is left stands behind those that aren't
next_entry : (es : List (List ℕ × Value)) (n : ℕ) (e : List ℕ × Value) (rest : List (List ℕ × Value))
    → drop n es ≡ e ∷ rest → slice_get es n ≡ Some e
next_entry [] zero e rest is = cc
next_entry [] (suc n) e rest is = cc
next_entry (x ∷ es) zero e rest is = let same : x ≡ e = cc in ap Some same
next_entry (x ∷ es) (suc n) e rest is = next_entry es n e rest is

less_left : (es : List (List ℕ × Value)) (n : ℕ) (e : List ℕ × Value) (rest : List (List ℕ × Value))
    → drop n es ≡ e ∷ rest → drop (suc n) es ≡ rest
less_left [] zero e rest is = cc
less_left [] (suc n) e rest is = cc
less_left (x ∷ es) zero e rest is = let same : es ≡ rest = cc in same
less_left (x ∷ es) (suc n) e rest is = less_left es n e rest is

more_done : (es : List (List ℕ × Value)) (n : ℕ) (e : List ℕ × Value) (rest : List (List ℕ × Value))
    → drop n es ≡ e ∷ rest → take (suc n) (map pair_of es) ≡ take n (map pair_of es) ++ pair_of e ∷ []
more_done [] zero e rest is = cc
more_done [] (suc n) e rest is = cc
more_done (x ∷ es) zero e rest is = let same : x ≡ e = cc in ap (λ y. pair_of y ∷ []) same
more_done (x ∷ es) (suc n) e rest is = ap (λ l. pair_of x ∷ l) (more_done es n e rest is)

has_none : (o : Option Meaning) → is_some o ≡ false → o ≡ None
has_none None is = refl
has_none (Some m) is = cc

-- the copy doesn't have the next name yet
pub not_yet : (es : List (List ℕ × Value)) (done : Pairs) (e : List ℕ × Value) (rest : List (List ℕ × Value))
    → IsDistinct bytes_eq (keys_of es) → drop (length done) es ≡ e ∷ rest
    → done ≡ take (length done) (map pair_of es) → value_in done e.0 ≡ None
not_yet es done e rest apart left copied =
    let first =
    own_first bytes_eq nat_list_eq_equiv es (length done) e.0 e.1 apart (next_entry es (length done) e rest left) in
    ap (λ ps. value_in ps e.0) copied
    ∙ has_none _ ((value_at_index es e.0 (length done) (length done) first).1 (omega arith))

-- one name more is copied
pub one_copied : (es : List (List ℕ × Value)) (done now : Pairs) (e : List ℕ × Value) (rest : List (List ℕ × Value))
    (m : Meaning) → drop (length done) es ≡ e ∷ rest
    → done ≡ take (length done) (map pair_of es) → m ≡ meaning e.1 → now ≡ with_new done e.0 m
    → (drop (length now) es ≡ rest) × (now ≡ take (length now) (map pair_of es))
one_copied es done now e rest m left copied same put =
    let more : length now ≡ suc (length done) = ap length put ∙ length-append done ((e.0, m) ∷ []) ∙ (omega arith) in (
      ap (λ n. drop n es) more ∙ less_left es (length done) e rest left,
      put
          ∙ (λ i. copied i ++ (e.0, same i) ∷ [])
          ∙ sym (more_done es (length done) e rest left)
          ∙ ap (λ n. take n (map pair_of es)) (sym more),
    )
