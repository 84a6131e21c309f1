-- Which names of one list of entries stand in another, and the entries that are left.
use Rattle.std.proofs.Common.{◌≡◌, ℕ, Bool, true, false, List, [], ◌∷◌, ◌++◌, ◌&&◌, ◌||◌, refl, sym, ap, ◌∙◌, is_some}
use Rattle.std.specs.Str.{bytes_eq}
use Rattle.std.specs.List.{list_any}
use Rattle.std.specs.Cmp.Lexicographic.{nat_list_eq_equiv}
use Rattle.bp_names.specs.Meaning.{number_of}
use Rattle.bp_values.specs.Values.{MapEntry}
use Rattle.bp_values.specs.Sums.{has_name, others}
use Rattle.bp_values.specs.Inside.{not_among, IsIndex, HasMet}
use Rattle.bp_values.proofs.Index.{has_index}

or_more : (a b c : Bool) → (a || (b || c)) ≡ ((a || b) || c)
or_more true b c = refl
or_more false b c = refl

pub has_push : (fs : List MapEntry) (f : MapEntry) (q : List ℕ)
    → has_name (fs ++ f ∷ []) q ≡ (has_name fs q || bytes_eq q f.name)
has_push [] f q = by (bytes_eq q f.name)
  where
    by : (b : Bool) → (b || false) ≡ (false || b)
    by true = refl
    by false = refl
has_push (x ∷ fs) f q =
    ap (λ b. bytes_eq q x.name || b) (has_push fs f q) ∙ or_more (bytes_eq q x.name) (has_name fs q) (bytes_eq q f.name)

-- Where the keys are the names that both lists have, the entries whose names are not among them are those whose names
-- the first lacks.
pub others_left : (keys : List (List ℕ)) (first whole fs : List MapEntry)
    → ((q : List ℕ) → list_any (bytes_eq q) keys ≡ (has_name first q && has_name whole q))
    → ((q : List ℕ) → has_name fs q ≡ true → has_name whole q ≡ true) → not_among keys fs ≡ others fs first
others_left keys first whole [] met within = refl
others_left keys first whole (f ∷ fs) met within =
    let here : has_name whole f.name ≡ true =
    within f.name (ap (λ b. b || has_name fs f.name) (nat_list_eq_equiv.refl f.name)) in
    let same : list_any (bytes_eq f.name) keys ≡ has_name first f.name =
    met f.name ∙ ap (λ b. has_name first f.name && b) here ∙ and_true (has_name first f.name) in
    rw (
      same,
      others_left keys first whole fs met
          (λ q has. within q (ap (λ b. bytes_eq q f.name || b) has ∙ or_true (bytes_eq q f.name))),
    ) refl
  where
    and_true : (b : Bool) → (b && true) ≡ b
    and_true true = refl
    and_true false = refl

    or_true : (b : Bool) → (b || true) ≡ true
    or_true true = refl
    or_true false = refl

-- The same, by the index of the second list.
pub others_of : (table : List (List ℕ × ℕ)) (keys : List (List ℕ)) (first second : List MapEntry) → IsIndex table second
    → HasMet keys table first → not_among keys second ≡ others second first
others_of table keys first second index met =
    others_left keys first second second (λ q. met.met q
    ∙ ap (λ b. has_name first q && b) (ap is_some (index.indices q) ∙ sym (has_index q second))) (λ q has. has)

-- names that one list has met, another with the same names has met
pub met_alike : (table : List (List ℕ × ℕ)) (keys : List (List ℕ)) (fs gs : List MapEntry)
    → ((q : List ℕ) → has_name fs q ≡ has_name gs q) → HasMet keys table fs → HasMet keys table gs
met_alike table keys fs gs alike met = record {
  met = λ q. met.met q ∙ ap (λ b. b && is_some (number_of table q)) (alike q);
}
