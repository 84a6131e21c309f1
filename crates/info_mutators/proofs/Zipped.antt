-- Edges beside what was made of their ends, up to an index.
use Rattle.std.proofs.Common.{◌≡◌, ◌<◌, ◌+◌, ◌++◌, ◌||◌, ℕ, zero, suc, List, [], ◌∷◌, Bool, true, false, cond, length}
use Rattle.std.proofs.Common.{map, get_or, take, drop, min, Some, refl, sym, ap, ◌∙◌, arith, append-nil}
use Rattle.std.specs.List.{zip, filter, list_any}
use Rattle.std.proofs.lemmas.List.{map-append}
use Rattle.std.proofs.lemmas.List.Elements.{filter-append}
use Rattle.std.proofs.lemmas.List.Folds.{list_any-append}
use Rattle.std.proofs.lemmas.List.Sums.{fold-append}
use Rattle.bp_props.specs.declared.props.Props.{Props}
use Rattle.graph_nodes.specs.declared.graph.EdgeKind.{EdgeKind}
use Rattle.info_mutators.specs.SdkLevel.{is_level_handed, lesser, least, handed_levels}

zip_next : {A B : Type 0} (xs : List A) (ys : List B) (i : ℕ) (x : A) (y : B) → i < length xs → i < length ys
    → zip (take (suc i) xs) ys ≡ zip (take i xs) ys ++ (get_or xs i x, get_or ys i y) ∷ []
zip_next [] ys i x y a b = absurd (omega (arith, a))
zip_next (x' ∷ xs) [] i x y a b = absurd (omega (arith, b))
zip_next (x' ∷ xs) (y' ∷ ys) zero x y a b = refl
zip_next (x' ∷ xs) (y' ∷ ys) (suc i) x y a b =
    ap (λ zs. (x', y') ∷ zs) (zip_next xs ys i x y (omega (arith, a)) (omega (arith, b)))

pub zip_more : {A B : Type 0} (xs : List A) (ys : List B) (i : ℕ) (x : A) (y : B) → i < length xs → i < length ys
    → zip (take (i + 1) xs) ys ≡ zip (take i xs) ys ++ (get_or xs i x, get_or ys i y) ∷ []
zip_more xs ys i x y a b =
    let e : i + 1 ≡ suc i = omega arith in ap (λ k. zip (take k xs) ys) e ∙ zip_next xs ys i x y a b

zip_none : {A B : Type 0} (xs : List A) → zip {X = B} xs [] ≡ []
zip_none [] = refl
zip_none (x ∷ xs) = refl

zip_split : {A B : Type 0} (xs : List A) (ys : List B) (i : ℕ)
    → zip xs ys ≡ zip (take i xs) ys ++ zip (drop i xs) (drop i ys)
zip_split xs ys zero = refl
zip_split [] ys (suc i) = refl
zip_split (x ∷ xs) [] (suc i) = sym (zip_none (drop i xs))
zip_split (x ∷ xs) (y ∷ ys) (suc i) = ap (λ zs. (x, y) ∷ zs) (zip_split xs ys i)

module _ {A B : Type 0} (p : A × B → Bool) (xs : List A) (ys : List B) (i : ℕ) (x : A) (y : B) (a : i < length xs)
    (b : i < length ys) where
  -- whether one passes the test, with one more
  pub any_more : list_any p (zip (take i xs) ys) ≡ false → p (get_or xs i x, get_or ys i y) ≡ false
      → list_any p (zip (take (i + 1) xs) ys) ≡ false
  any_more before here =
      ap (list_any p) (zip_more xs ys i x y a b)
      ∙ list_any-append p (zip (take i xs) ys) ((get_or xs i x, get_or ys i y) ∷ [])
      ∙ ap (λ c. c || (p (get_or xs i x, get_or ys i y) || false)) before ∙ ap (λ c. c || false) here

  -- one that passes it
  pub any_here : p (get_or xs i x, get_or ys i y) ≡ true → true ≡ list_any p (zip xs ys)
  any_here here = sym (
      ap (list_any p) (zip_split xs ys (i + 1))
      ∙ list_any-append p (zip (take (i + 1) xs) ys) (zip (drop (i + 1) xs) (drop (i + 1) ys))
      ∙ ap (λ c. c || list_any p (zip (drop (i + 1) xs) (drop (i + 1) ys)))
      (ap (list_any p) (zip_more xs ys i x y a b)
      ∙ list_any-append p (zip (take i xs) ys) ((get_or xs i x, get_or ys i y) ∷ [])
      ∙ ap (λ c. list_any p (zip (take i xs) ys) || (c || false)) here
      ∙ true_last (list_any p (zip (take i xs) ys))))
    where
      true_last : (c : Bool) → (c || true) ≡ true
      true_last true = refl
      true_last false = refl

least_more : (levels : List ℕ) (level : ℕ) → least (levels ++ level ∷ []) ≡ Some (lesser (least levels) level)
least_more [] level = refl
least_more (first ∷ levels) level = ap Some (fold-append min first levels (level ∷ []))

least_step : (levels : List ℕ) (b : Bool) (level : ℕ)
    → least (levels ++ cond b (level ∷ []) []) ≡ cond b (Some (lesser (least levels) level)) (least levels)
least_step levels true level = least_more levels level
least_step levels false level = ap least (append-nil levels)

one_level : (kind : EdgeKind) (p : Props)
    → handed_levels (kind ∷ []) (p ∷ []) ≡ cond (is_level_handed kind) (p.level ∷ []) []
one_level kind p = by (is_level_handed kind)
  where
    by : (b : Bool) → map (λ (d : EdgeKind × Props). d.1.level) (cond b ((kind, p) ∷ []) []) ≡ cond b (p.level ∷ []) []
    by true = refl
    by false = refl

-- the least level with one edge more
pub least_handed_more : (kinds : List EdgeKind) (ins : List Props) (i : ℕ) (k : EdgeKind) (p : Props) → i < length kinds
    → length ins ≡ length kinds
    → least (handed_levels (take (i + 1) kinds) ins) ≡ cond (is_level_handed (get_or kinds i k)) (Some (lesser
    (least (handed_levels (take i kinds) ins)) (get_or ins i p).level)) (least (handed_levels (take i kinds) ins))
least_handed_more kinds ins i k p within many =
    let inside : i < length ins = omega (arith, within, many) in
    let test = λ (d : EdgeKind × Props). is_level_handed d.0 in
    let level_of = λ (d : EdgeKind × Props). d.1.level in
    let before = zip (take i kinds) ins in
    let here = (get_or kinds i k, get_or ins i p) ∷ [] in
    ap (λ zs. least (map level_of (filter test zs))) (zip_more kinds ins i k p within inside)
    ∙ ap (λ zs. least (map level_of zs)) (filter-append test before here)
    ∙ ap least (map-append level_of (filter test before) (filter test here))
    ∙ ap (λ zs. least (handed_levels (take i kinds) ins ++ zs)) (one_level (get_or kinds i k) (get_or ins i p))
    ∙ least_step (handed_levels (take i kinds) ins) (is_level_handed (get_or kinds i k)) (get_or ins i p).level
