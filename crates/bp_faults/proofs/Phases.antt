-- Laws of the words of phases, for the proofs of every crate. They hold of every relation, which no contract can say.
use Rattle.std.proofs.Common.{◌≡◌, ◌∙◌, ℕ, zero, suc, ◌+◌, ◌<◌, ⊎_elim, List, [], ◌∷◌, length, get_or, take, refl, ap}
use Rattle.std.proofs.Common.{sym, subst, arith}
use Rattle.std.specs.Prelude.{Result, Ok, Err}
use Rattle.std.specs.List.{HoldsAt}
use Rattle.std.proofs.lemmas.Bool.{cases_order}
use Rattle.std.proofs.lemmas.List.{get_or-take, length-take}
use Rattle.bp_faults.specs.declared.fault.Fault.{Fault}
use Rattle.bp_faults.specs.Phases.{IsOnce, HasOutcome, GoesOn, Then, Each, IsFirstOf, Phase}

-- A function's value is one outcome.
pub value_once : {A : Type 0} (value : Result A Fault) → IsOnce (λ outcome. value ≡ outcome)
value_once value a b x y = sym x ∙ y

-- What goes on from a result has one outcome, where the next meaning has.
pub goes_on_once : {A B : Type 0} (first : Result A Fault) (Next : A → Result B Fault → Type 0)
    → ((value : A) → IsOnce (Next value)) → IsOnce (GoesOn first Next)
goes_on_once (Ok value) Next once a b x y = once value a b x y
goes_on_once (Err fault) Next once a b x y = sym x ∙ y

-- What goes on from a result has some outcome, where the next meaning has.
pub goes_on_some : {A B : Type 0} (first : Result A Fault) (Next : A → Result B Fault → Type 0)
    → ((value : A) → HasOutcome (Next value)) → HasOutcome (GoesOn first Next)
goes_on_some (Ok value) Next some = some value
goes_on_some (Err fault) Next some = (Err fault, refl)

-- Two meanings, one after the other, have one outcome, where both have.
pub then_once : {A B : Type 0} (First : Result A Fault → Type 0) (Next : A → Result B Fault → Type 0)
    → IsOnce First → ((value : A) → IsOnce (Next value)) → IsOnce (Then First Next)
then_once First Next one once a b x y =
    goes_on_once x.0 Next once a b x.2 (subst (λ first. GoesOn first Next b) (sym (one x.0 y.0 x.1 y.1)) y.2)

-- Two meanings, one after the other, have some outcome, where both have.
pub then_some : {A B : Type 0} (First : Result A Fault → Type 0) (Next : A → Result B Fault → Type 0)
    → HasOutcome First → ((value : A) → HasOutcome (Next value)) → HasOutcome (Then First Next)
then_some First Next first some =
    let next = goes_on_some first.0 Next some in (next.0, (first.0, first.1, next.1))

module _ {A B : Type 0} (Means : ℕ → A → Result B Fault → Type 0) (once : (n : ℕ) (x : A) → IsOnce (Means n x)) where
  each_once : (n : ℕ) (xs : List A) (ys zs : List B) → Each Means n xs ys → Each Means n xs zs → ys ≡ zs
  each_once n [] [] [] first second = refl
  each_once n [] [] (z ∷ zs) first second = absurd second
  each_once n [] (y ∷ ys) zs first second = absurd first
  each_once n (x ∷ xs) [] zs first second = absurd first
  each_once n (x ∷ xs) (y ∷ ys) [] first second = absurd second
  each_once n (x ∷ xs) (y ∷ ys) (z ∷ zs) first second =
      let head : Ok y ≡ Ok z = once n x (Ok y) (Ok z) first.0 second.0 in
      let tail : ys ≡ zs = each_once (n + 1) xs ys zs first.1 second.1 in
      cc

  value_or_fault : (n : ℕ) (x : A) (y : B) (fault : Fault) → Means n x (Ok y) → Means n x (Err fault) → ⊥
  value_or_fault n x y fault means faulty = let same : Ok y ≡ Err fault = once n x (Ok y) (Err fault) means faulty in cc

  no_fault : (n : ℕ) (xs : List A) (ys : List B) (fault : Fault) (at : ℕ) → Each Means n xs ys → at < length xs
      → HoldsAt (λ x. Means (n + at) x (Err fault)) xs at → ⊥
  no_fault n [] ys fault at each below here = omega arith
  no_fault n (x ∷ xs) [] fault at each below here = absurd each
  no_fault n (x ∷ xs) (y ∷ ys) fault zero each below here =
      value_or_fault n x y fault each.0 (subst (λ k. Means k x (Err fault)) (omega arith) (here x))
  no_fault n (x ∷ xs) (y ∷ ys) fault (suc at) each below here =
      no_fault (n + 1) xs ys fault at each.1 (omega arith)
      (λ d. subst (λ k. Means k (get_or xs at d) (Err fault)) (omega arith) (here d))

  not_behind : (n : ℕ) (xs : List A) (a b : Fault) (first : IsFirstOf Means n xs a) (second : IsFirstOf Means n xs b)
      → first.at < second.at → ⊥
  not_behind n xs a b first second before =
      no_fault n (take second.at xs) second.before a first.at second.each
      (omega (arith, second.inside, length-take second.at xs))
      (λ d. subst (λ x. Means (n + first.at) x (Err a)) (sym (get_or-take second.at xs first.at d before))
      (first.here d))

  fault_here : (n : ℕ) (xs : List A) (a b : Fault) (at : ℕ) → at < length xs
      → HoldsAt (λ x. Means (n + at) x (Err a)) xs at → HoldsAt (λ x. Means (n + at) x (Err b)) xs at → a ≡ b
  fault_here n [] a b at below first second = absurd (omega arith)
  fault_here n (x ∷ xs) a b at below first second =
      let same : Err a ≡ Err b = once (n + at) (get_or (x ∷ xs) at x) (Err a) (Err b) (first x) (second x) in
      cc

  one_first : (n : ℕ) (xs : List A) (a b : Fault) → IsFirstOf Means n xs a → IsFirstOf Means n xs b → a ≡ b
  one_first n xs a b first second =
      ⊎_elim
      (λ same. fault_here n xs a b second.at second.inside
      (subst (λ k. HoldsAt (λ x. Means (n + k) x (Err a)) xs k) same first.here) second.here)
      (λ apart. ⊎_elim
      (λ before. absurd (not_behind n xs a b first second before))
      (λ behind. absurd (not_behind n xs b a second first behind))
      apart)
      (cases_order first.at second.at)

  -- A numbered list has one outcome, where each item has.
  pub phase_once : (n : ℕ) (xs : List A) → IsOnce (Phase Means n xs)
  phase_once n xs (Ok ys) (Ok zs) first second = ap Ok (each_once n xs ys zs first second)
  phase_once n xs (Ok ys) (Err f) first second = absurd (no_fault n xs ys f second.at first second.inside second.here)
  phase_once n xs (Err e) (Ok zs) first second = absurd (no_fault n xs zs e first.at second first.inside first.here)
  phase_once n xs (Err e) (Err f) first second = ap Err (one_first n xs e f first second)

module _ {A B : Type 0} (Means : ℕ → A → Result B Fault → Type 0)
    (some : (n : ℕ) (x : A) → HasOutcome (Means n x)) where
  later : (n : ℕ) (x : A) (xs : List A) (y : B) (fault : Fault) → Means n x (Ok y) → IsFirstOf Means (n + 1) xs fault
      → IsFirstOf Means n (x ∷ xs) fault
  later n x xs y fault means first = record {
    at = suc first.at;
    inside = omega (arith, first.inside);
    before = y ∷ first.before;
    each = (means, first.each);
    here = λ d. subst (λ k. Means k (get_or xs first.at d) (Err fault)) (omega arith) (first.here d);
  }

  -- A numbered list has some outcome, where each item has.
  pub phase_some : (n : ℕ) (xs : List A) → HasOutcome (Phase Means n xs)
  phase_some n [] = (Ok [], tt)
  phase_some n (x ∷ xs) = by (some n x).0 (some n x).1 (phase_some (n + 1) xs).0 (phase_some (n + 1) xs).1
    where
      by : (head : Result B Fault) → Means n x head → (tail : Result (List B) Fault) → Phase Means (n + 1) xs tail
          → HasOutcome (Phase Means n (x ∷ xs))
      by (Err fault) means tail rest = (
        Err fault,
        record {
          at = zero;
          inside = omega arith;
          before = [];
          each = tt;
          here =
              λ d. subst (λ k. Means k x (Err fault)) (omega arith) means;
        },
      )
      by (Ok y) means (Ok ys) rest = (Ok (y ∷ ys), (means, rest))
      by (Ok y) means (Err fault) first = (Err fault, later n x xs y fault means first)
