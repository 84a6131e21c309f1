-- Facts about lists that std doesn't have, for the proofs of every crate.
use Rattle.std.proofs.Common.{◌≡◌, ◌≢◌, ◌<◌, ◌≤◌, ◌+◌, ◌-◌, ℕ, true, zero, suc, max, List, [], ◌∷◌, ◌++◌, map}
use Rattle.std.proofs.Common.{get_or, set, take, drop, append_assoc, refl, ap, sym, ◌∙◌, arith, subst, Some, None}
use Rattle.std.proofs.Common.{Bool, false, cond, length, reverse, Result, Ok, Err}
use Rattle.std.specs.Prelude.{slice_get, ⊤}
use Rattle.std.specs.List.{AllByRecursion, AllPairs, Contains, flat_map, list_all, position_from}
use Rattle.std.specs.Str.{bytes_eq}
use Rattle.std.specs.Cmp.Lexicographic.{same_text}
use Rattle.std.proofs.Math.Seq.{drop-cons, take-suc}
use Rattle.std.proofs.lemmas.List.{get_or-take, length-take-le, drop_all, map-append, reverse-append}
use Rattle.std.proofs.lemmas.List.Elements.{All-from_recursion, recursion_from_All}
use Rattle.std.proofs.lemmas.List.Sums.{AllPass-from_list_all}
use Rattle.bp_faults.specs.Answers.{then_do}
use Rattle.bp_faults.specs.Phases.{each_in_turn}
use Rattle.bp_faults.specs.Order.{above_all}

-- Functions that agree on each element of a list give one list.
pub map-same : {A B : Type 0} (f g : A → B) (xs : List A) → AllByRecursion (λ x. f x ≡ g x) xs → map f xs ≡ map g xs
map-same f g [] h = refl
map-same f g (x ∷ xs) h = λ i. h.0 i ∷ map-same f g xs h.1 i

-- What follows from what holds of each element holds of each.
pub all_map : {A : Type 0} (P Q : A → Type 0) → ((x : A) → P x → Q x) → (xs : List A) → AllByRecursion P xs
    → AllByRecursion Q xs
all_map P Q f [] h = tt
all_map P Q f (x ∷ xs) h = (f x h.0, all_map P Q f xs h.1)

-- What follows from two things that hold of each element holds of each.
pub all_with : {A : Type 0} (P Q R : A → Type 0) → ((x : A) → P x → Q x → R x) → (xs : List A) → AllByRecursion P xs
    → AllByRecursion Q xs → AllByRecursion R xs
all_with P Q R f [] h k = tt
all_with P Q R f (x ∷ xs) h k = (f x h.0 k.0, all_with P Q R f xs h.1 k.1)

-- Two things that hold of each element hold of each together.
pub both : {A : Type 0} (P Q : A → Type 0) (xs : List A) → AllByRecursion P xs → AllByRecursion Q xs
    → AllByRecursion (λ x. P x × Q x) xs
both P Q [] h k = tt
both P Q (x ∷ xs) h k = ((h.0, k.0), both P Q xs h.1 k.1)

-- What holds of each element and of one more holds of each where that stands behind them.
pub all_pushed : {X : Type 0} (P : X → Type 0) (xs : List X) (x : X) → AllByRecursion P xs → P x
    → AllByRecursion P (xs ++ x ∷ [])
all_pushed P [] x h p = (p, tt)
all_pushed P (y ∷ ys) x h p = (h.0, all_pushed P ys x h.1 p)

-- What holds of everything holds of each element.
pub all_each : {X : Type 0} (P : X → Type 0) → ((x : X) → P x) → (xs : List X) → AllByRecursion P xs
all_each P h [] = tt
all_each P h (x ∷ xs) = (h x, all_each P h xs)

-- What holds of each element of two lists holds of each where the second stands behind the first.
pub all_append : {X : Type 0} (P : X → Type 0) (xs ys : List X) → AllByRecursion P xs → AllByRecursion P ys
    → AllByRecursion P (xs ++ ys)
all_append P [] ys h k = k
all_append P (x ∷ xs) ys h k = (h.0, all_append P xs ys h.1 k)

-- What holds of each element of a list and another behind it holds of each element of both.
pub all_split : {X : Type 0} (P : X → Type 0) (xs ys : List X) → AllByRecursion P (xs ++ ys)
    → AllByRecursion P xs × AllByRecursion P ys
all_split P [] ys h = (tt, h)
all_split P (x ∷ xs) ys h = let r = all_split P xs ys h.1 in ((h.0, r.0), r.1)

-- What holds of what a function makes of each element holds of each element that it makes of the list.
pub all_image : {A B : Type 0} (P : A → Type 0) (Q : B → Type 0) (f : A → B) → ((x : A) → P x → Q (f x))
    → (xs : List A) → AllByRecursion P xs → AllByRecursion Q (map f xs)
all_image P Q f imp [] h = tt
all_image P Q f imp (x ∷ xs) h = (imp x h.0, all_image P Q f imp xs h.1)

-- The same, where it makes a list of each element.
pub all_flat : {A B : Type 0} (P : A → Type 0) (Q : B → Type 0) (f : A → List B)
    → ((x : A) → P x → AllByRecursion Q (f x)) → (xs : List A) → AllByRecursion P xs → AllByRecursion Q (flat_map f xs)
all_flat P Q f imp [] h = tt
all_flat P Q f imp (x ∷ xs) h = all_append Q (f x) (flat_map f xs) (imp x h.0) (all_flat P Q f imp xs h.1)

-- What holds of each element holds of each of the list turned around.
pub all_reversed : {X : Type 0} (P : X → Type 0) (xs : List X) → AllByRecursion P xs → AllByRecursion P (reverse xs)
all_reversed P [] h = tt
all_reversed P (x ∷ xs) h =
    subst (AllByRecursion P) (sym (reverse-append (x ∷ []) xs))
    (all_append P (reverse xs) (x ∷ []) (all_reversed P xs h.1) (h.0, tt))

-- What holds of each element that a function makes of a list holds of what it makes of each element.
pub all_before : {A B : Type 0} (f : A → B) (Q : B → Type 0) (xs : List A) → AllByRecursion Q (map f xs)
    → AllByRecursion (λ x. Q (f x)) xs
all_before f Q [] h = tt
all_before f Q (x ∷ xs) h = (h.0, all_before f Q xs h.1)

-- What holds of each element holds of one that a list contains.
pub all_contained : {X : Type 0} (P : X → Type 0) (xs : List X) (x : X) → AllByRecursion P xs → Contains xs x → P x
all_contained P xs x h c = subst P c.2 (All-from_recursion P xs h c.0 x c.1)

-- What each element passes, one that a list contains passes.
pub contained_passes : {X : Type 0} (test : X → Bool) (xs : List X) (x : X) → list_all test xs ≡ true → Contains xs x
    → test x ≡ true
contained_passes test xs x h held = ap test (sym held.2) ∙ AllPass-from_list_all test xs h held.0 x held.1

module _ {A : Type 0} where
  -- A relation holds of each element and each later one.
  abbrev pub Apart : (A → A → Type 0) → List A → Type 0
  Apart R [] = ⊤
  Apart R (x ∷ xs) = AllByRecursion (R x) xs × Apart R xs

  -- It does where it holds of what stands at two indices, the lesser first.
  pub apart_pairs : (R : A → A → Type 0) (xs : List A) → AllPairs R xs → Apart R xs
  apart_pairs R [] h = tt
  apart_pairs R (x ∷ xs) h = (
    recursion_from_All (R x) xs (λ j d lt. h zero (suc j) d (omega arith) (omega arith)),
    apart_pairs R xs (λ i j d lt in'. h (suc i) (suc j) d (omega arith) (omega arith)),
  )

  -- And there alone.
  pub pairs_apart : (R : A → A → Type 0) (xs : List A) → Apart R xs → AllPairs R xs
  pairs_apart R [] h i j d lt in' = absurd (omega arith)
  pairs_apart R (x ∷ xs) h zero zero d lt in' = absurd (omega arith)
  pairs_apart R (x ∷ xs) h zero (suc j) d lt in' = All-from_recursion (R x) xs h.0 j d (omega arith)
  pairs_apart R (x ∷ xs) h (suc i) zero d lt in' = absurd (omega arith)
  pairs_apart R (x ∷ xs) h (suc i) (suc j) d lt in' = pairs_apart R xs h.1 i j d (omega arith) (omega arith)

  -- It does of a list behind another, where it holds of each element of the one and each of the other.
  pub apart_append : (R : A → A → Type 0) (xs ys : List A) → Apart R xs → Apart R ys
      → AllByRecursion (λ x. AllByRecursion (R x) ys) xs → Apart R (xs ++ ys)
  apart_append R [] ys h k c = k
  apart_append R (x ∷ xs) ys h k c = (all_append (R x) xs ys h.0 c.0, apart_append R xs ys h.1 k c.1)

-- A relation holds of what a function makes, where another holds that the function takes to it.
pub apart_image : {A B : Type 0} (R : A → A → Type 0) (S : B → B → Type 0) (f : A → B)
    → ((x y : A) → R x y → S (f x) (f y)) → (xs : List A) → Apart R xs → Apart S (map f xs)
apart_image R S f imp [] h = tt
apart_image R S f imp (x ∷ xs) h = (all_image (R x) (S (f x)) f (λ y. imp x y) xs h.0, apart_image R S f imp xs h.1)

-- What is set at an index stands there.
pub get_here : {X : Type 0} (xs : List X) (i : ℕ) (x : X) → i < length xs → slice_get (set xs i x) i ≡ Some x
get_here [] i x lt = absurd (omega arith)
get_here (y ∷ ys) zero x lt = refl
get_here (y ∷ ys) (suc i) x lt = get_here ys i x (omega arith)

-- What stands elsewhere is as it was.
pub get_else : {X : Type 0} (xs : List X) (i j : ℕ) (x : X) → j ≢ i → slice_get (set xs i x) j ≡ slice_get xs j
get_else [] i j x ne = refl
get_else (y ∷ ys) zero zero x ne = absurd (ne refl)
get_else (y ∷ ys) zero (suc j) x ne = refl
get_else (y ∷ ys) (suc i) zero x ne = refl
get_else (y ∷ ys) (suc i) (suc j) x ne = get_else ys i j x (λ e. ne (ap suc e))

-- Where a list has nothing at an index, it has no more elements than that.
pub none_there : {X : Type 0} (xs : List X) (n : ℕ) → slice_get xs n ≡ None → length xs ≤ n
none_there [] n is = omega arith
none_there (x ∷ xs) zero is = cc
none_there (x ∷ xs) (suc n) is = let rest = none_there xs n is in omega arith

-- Something stands at an index within a list.
pub some_there : {X : Type 0} (xs : List X) (n : ℕ) → n < length xs → (x : X) × (slice_get xs n ≡ Some x)
some_there [] n lt = absurd (omega arith)
some_there (x ∷ xs) zero lt = (x, refl)
some_there (x ∷ xs) (suc n) lt = some_there xs n (omega arith)

-- An index that is found is one of the list.
pub found_inside : {X : Type 0} (test : X → Bool) (k : ℕ) (xs : List X) (n : ℕ) → position_from test k xs ≡ Some n
    → n < k + length xs
found_inside test k [] n is = cc
found_inside test k (x ∷ xs) n is = by (test x) (found_inside test (k + 1) xs n) is
  where
    by : (b : Bool) → (position_from test (k + 1) xs ≡ Some n → n < (k + 1) + length xs)
        → cond b (Some k) (position_from test (k + 1) xs) ≡ Some n → n < k + suc (length xs)
    by true rest h = let same : k ≡ n = cc in omega arith
    by false rest h = let r = rest h in omega arith

-- A list and another behind it have at an index what the first has.
pub slice_get-append : {X : Type 0} (xs ys : List X) (n : ℕ) (x : X) → n < length xs
    → slice_get (xs ++ ys) n ≡ Some (get_or xs n x)
slice_get-append [] ys n x lt = absurd (omega arith)
slice_get-append (y ∷ xs) ys zero x lt = refl
slice_get-append (y ∷ xs) ys (suc n) x lt = slice_get-append xs ys n x (omega arith)

-- Past the first they have what the second has.
pub slice_get-append_past : {X : Type 0} (xs ys : List X) (n : ℕ) → length xs ≤ n
    → slice_get (xs ++ ys) n ≡ slice_get ys (n - length xs)
slice_get-append_past [] ys n le = let s : n ≡ n - 0 = omega arith in ap (slice_get ys) s
slice_get-append_past (x ∷ xs) ys zero le = absurd (omega arith)
slice_get-append_past (x ∷ xs) ys (suc n) le =
    let s : n - length xs ≡ suc n - suc (length xs) = omega arith in
    slice_get-append_past xs ys n (omega arith) ∙ ap (slice_get ys) s

-- As many as there are, or more, are all.
pub take-past : {X : Type 0} (i : ℕ) (xs : List X) → length xs ≤ i → take i xs ≡ xs
take-past zero [] le = refl
take-past zero (x ∷ xs) le = absurd (omega arith)
take-past (suc i) [] le = refl
take-past (suc i) (x ∷ xs) le = ap (λ (l : List _). x ∷ l) (take-past i xs (omega arith))

-- An element is the same whatever stands past the end.
pub same_at : {A : Type 0} (xs : List A) (i : ℕ) (d e : A) → i < length xs → get_or xs i d ≡ get_or xs i e
same_at [] i d e lt = absurd (omega arith)
same_at (x ∷ xs) zero d e lt = refl
same_at (x ∷ xs) (suc i) d e lt = same_at xs i d e (omega arith)

-- The elements before an index contain each that stands before it.
pub contains_earlier : {A : Type 0} (xs : List A) (x : A) (i k : ℕ) → k < i → i < length xs → get_or xs k x ≡ x
    → Contains (take i xs) x
contains_earlier xs x i k lt li is =
    (k, let e = length-take-le i xs (omega arith) in omega arith, get_or-take i xs k x lt ∙ is)

-- Texts that the test finds equal are the same.
pub same_bytes : (a b : List ℕ) → bytes_eq a b ≡ true → a ≡ b
same_bytes a b is = same_text a b (sym is)

-- Each element is lower than what is above all.
pub below_top : {X : Type 0} (f : X → ℕ) (xs : List X) → AllByRecursion (λ x. f x < above_all (map f xs)) xs
below_top f [] = tt
below_top f (x ∷ xs) = (
  omega arith,
  all_map (λ y. f y < above_all (map f xs)) (λ y. f y < max (suc (f x)) (above_all (map f xs)))
      (λ y h. omega arith) xs (below_top f xs),
)

-- What is left of a list begins with the element that a loop is at.
pub drop-here : {X : Type 0} (xs : List X) (i : ℕ) (x : X) → i < length xs → x ≡ get_or xs i x
    → drop i xs ≡ x ∷ drop (i + 1) xs
drop-here xs i x within is =
    drop-cons xs i x within ∙ ap (λ y. y ∷ drop (suc i) xs) (sym is)
    ∙ ap (λ n. x ∷ drop n xs) (let more : suc i ≡ i + 1 = omega arith in more)

-- The elements so far and the one that a loop is at are those so far, one step on.
pub take-more : {X : Type 0} (xs : List X) (i : ℕ) (x : X) → i < length xs → x ≡ get_or xs i x
    → take (i + 1) xs ≡ take i xs ++ x ∷ []
take-more xs i x within is =
    ap (λ n. take n xs) (let more : i + 1 ≡ suc i = omega arith in more) ∙ take-suc xs i x within
    ∙ ap (λ y. take i xs ++ y ∷ []) (sym is)

-- The same holds of what a function makes of them.
pub map-take-more : {X Y : Type 0} (f : X → Y) (xs : List X) (i : ℕ) (x : X) (y : Y) → i < length xs → x ≡ get_or xs i x
    → y ≡ f x → map f (take (i + 1) xs) ≡ map f (take i xs) ++ y ∷ []
map-take-more f xs i x y within is made =
    ap (map f) (take-more xs i x within is) ∙ map-append f (take i xs) (x ∷ [])
    ∙ ap (λ z. map f (take i xs) ++ z ∷ []) (sym made)

-- Values that are there before those that are still to come.
abbrev pub behind : {Y E : Type 0} → List Y → Result (List Y) E → Result (List Y) E
behind done rest = then_do rest (λ more. Ok (done ++ more))

behind_more : {Y E : Type 0} (done : List Y) (y : Y) (rest : Result (List Y) E)
    → behind done (then_do rest (λ more. Ok (y ∷ more))) ≡ behind (done ++ y ∷ []) rest
behind_more done y (Ok more) = ap Ok (sym (append_assoc done (y ∷ []) more))
behind_more done y (Err error) = refl

module _ {X Y E : Type 0} (step : X → Result Y E) (all : List X) where
  valued : (i : ℕ) (done : List Y) (x : X) → i < length all → x ≡ get_or all i x
      → each_in_turn step all ≡ behind done (each_in_turn step (drop i all))
      → (made : Result Y E) → step x ≡ made
      → each_in_turn step all ≡ behind done
      (then_do made (λ y. then_do (each_in_turn step (drop (i + 1) all)) (λ ys. Ok (y ∷ ys))))
  valued i done x within is rest made found =
      rest ∙ ap (λ xs. behind done (each_in_turn step xs)) (drop-here all i x within is)
      ∙ ap (λ m. behind done
      (then_do m (λ y. then_do (each_in_turn step (drop (i + 1) all)) (λ ys. Ok (y ∷ ys))))) found

  -- One more element has its value.
  pub in_turn_more : (i : ℕ) (done new : List Y) (x : X) (y : Y) → i < length all → x ≡ get_or all i x
      → each_in_turn step all ≡ behind done (each_in_turn step (drop i all)) → step x ≡ Ok y → new ≡ done ++ y ∷ []
      → each_in_turn step all ≡ behind new (each_in_turn step (drop (i + 1) all))
  in_turn_more i done new x y within is rest found grown =
      valued i done x within is rest (Ok y) found ∙ behind_more done y (each_in_turn step (drop (i + 1) all))
      ∙ ap (λ ys. behind ys (each_in_turn step (drop (i + 1) all))) (sym grown)

  past : (i : ℕ) → length all ≤ i → drop i all ≡ []
  past i le = drop_all i all le
