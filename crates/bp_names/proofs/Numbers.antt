-- Facts about names and their numbers.
use Rattle.std.proofs.Common.{◌≡◌, ◌∙◌, ◌<◌, ℕ, ◌+◌, Bool, true, false, cond, List, [], ◌∷◌, ◌++◌, map, length, get_or}
use Rattle.std.proofs.Common.{take, refl, ap, sym, arith, Option, Some, None, true≢false}
use Rattle.std.specs.Prelude.{◌||◌, if◌then◌else◌}
use Rattle.std.specs.Option.{option_or, is_none}
use Rattle.std.specs.Str.{bytes_eq}
use Rattle.std.proofs.lemmas.Cmp.{nat_list_eq_equiv}
use Rattle.std.proofs.lemmas.List.{get_or-map, length-map, length-take-le}
use Rattle.bp_faults.proofs.Lists.{same_bytes, take-more}
use Rattle.bp_names.specs.Meaning.{knows, number_of, number_for, first_number, first_number_from}

passed_on : (a b c : Bool) → a || cond b true c ≡ cond b true (a || c)
passed_on true true c = refl
passed_on true false c = refl
passed_on false b c = refl

-- what one name more is known by
pub knows_more : (names : List (List ℕ)) (name query : List ℕ)
    → knows (names ++ name ∷ []) query ≡ cond (bytes_eq name query) true (knows names query)
knows_more [] name query = λ i. alone (nat_list_eq_equiv.symm query name i) i
  where
    alone : (b : Bool) → b || false ≡ cond b true false
    alone true = refl
    alone false = refl
knows_more (first ∷ names) name query =
    ap (λ b. bytes_eq query first || b) (knows_more names name query)
    ∙ passed_on (bytes_eq query first) (bytes_eq name query) (knows names query)

or_none : (o : Option ℕ) → option_or o None ≡ o
or_none None = refl
or_none (Some n) = refl

pub was_none : (o : Option ℕ) → is_none o ≡ true → o ≡ None
was_none None h = refl
was_none (Some n) h = absurd (true≢false (sym h))

-- what is written behind a name that had no number
pub settled : (old : List (List ℕ × ℕ)) (name : List ℕ) (number : ℕ) (query : List ℕ) (new : Option ℕ)
    → number_of old name ≡ None
    → new ≡ cond (bytes_eq name query) (Some number) (number_of old query)
    → new ≡ option_or (number_of old query) (number_for name number query)
settled old name number query new none written = written ∙ by (bytes_eq name query) refl
  where
    by : (same : Bool) → bytes_eq name query ≡ same
        → cond same (Some number) (number_of old query) ≡ option_or (number_of old query)
        (if same then Some number else None)
    by true is = ap (λ o. option_or o (Some number)) (sym (ap (number_of old) (sym (same_bytes name query is)) ∙ none))
    by false is = sym (or_none (number_of old query))

pub one_more : (n : ℕ) (names : List (List ℕ)) (name query : List ℕ)
    → first_number_from n (names ++ name ∷ []) query ≡ option_or (first_number_from n names query)
    (number_for name (n + length names) query)
one_more n [] name query = λ i. if nat_list_eq_equiv.symm query name i then Some (same i) else None
  where
    same : n ≡ n + 0
    same = omega arith
one_more n (first ∷ names) name query = by (one_more (n + 1) names name query) (bytes_eq query first)
  where
    by : first_number_from (n + 1) (names ++ name ∷ []) query
        ≡ option_or (first_number_from (n + 1) names query) (number_for name ((n + 1) + length names) query)
        → (here : Bool) → (if here then Some n else first_number_from (n + 1) (names ++ name ∷ []) query)
        ≡ option_or (if here then Some n else first_number_from (n + 1) names query)
        (number_for name (n + length (first ∷ names)) query)
    by rest true = refl
    by rest false =
        rest ∙ ap (λ m. option_or (first_number_from (n + 1) names query) (number_for name m query)) (omega arith)

pub first_number_stays : (names : List (List ℕ)) (name query : List ℕ)
    → first_number (names ++ name ∷ []) query ≡ option_or (first_number names query)
    (number_for name (length names) query)
first_number_stays names name query =
    one_more 0 names name query ∙ ap (λ m. option_or (first_number names query) (number_for name m query)) (omega arith)

-- the first numbers of one name more of a list
one_more_taken : (names : List (List ℕ)) (n : ℕ) (name query : List ℕ) → n < length names → get_or names n name ≡ name
    → first_number (take (n + 1) names) query ≡ option_or (first_number (take n names) query) (number_for name n query)
one_more_taken names n name query within here =
    ap (λ ns. first_number ns query) (take-more names n name within (sym here))
    ∙ first_number_stays (take n names) name query
    ∙ ap (λ m. option_or (first_number (take n names) query) (number_for name m query))
    (length-take-le n names (omega (arith, within)))

-- the first numbers of one value more
pub one_more_value : {X : Type 0} (name_of : X → List ℕ) (xs : List X) (n : ℕ) (x : X) (name query : List ℕ)
    → n < length xs
    → x ≡ get_or xs n x → name ≡ name_of x
    → first_number (take (n + 1) (map name_of xs)) query
    ≡ option_or (first_number (take n (map name_of xs)) query) (number_for name n query)
one_more_value name_of xs n x name query lt here named =
    one_more_taken (map name_of xs) n name query (let e = length-map xs name_of in omega (arith, lt, e))
    (get_or-map name_of xs n x name lt ∙ ap name_of (sym here) ∙ sym named)
