-- What is made of two halves of a list, in order, or the first of their refusals, is what the whole list means.
use Rattle.std.proofs.Common.{◌≡◌, ◌∙◌, ℕ, ◌+◌, List, [], ◌∷◌, ◌++◌, Vec, Global, length, map, take, drop, get_or, refl}
use Rattle.std.proofs.Common.{ap, sym, subst, arith, append_assoc}
use Rattle.std.specs.Prelude.{Option, Result, Ok, Err}
use Rattle.std.specs.Option.{option_to_list}
use Rattle.std.proofs.lemmas.List.{map-append, length-append, get_or_append_left, get_or-append-add, take-append-le}
use Rattle.std.proofs.lemmas.List.{take-append-drop}
use Rattle.std.proofs.Math.Seq.{take-append-add}
use Rattle.bp_faults.specs.declared.fault.Fault.{Fault}
use Rattle.bp_faults.specs.declared.refusal.Refusal.{Refusal}
use Rattle.bp_faults.specs.declared.refusal.Refusal.TheVariants.{Bad, OutOfMemory}
use Rattle.bp_faults.specs.Answers.{Answers, Tells, then_do}
use Rattle.bp_faults.specs.Phases.{Each, IsFirstOf, Phase}
use Rattle.bp_props.specs.declared.module.Module.{Module}
use Rattle.bp_values.specs.declared.file.RawModule.{RawModule}
use Rattle.bp_values.specs.Meaning.{Raw}
use Rattle.property_tables.specs.Meaning.{typed_module}
use Rattle.bp_load.specs.Halves.{JoinMeans, AppendMeans}
use Rattle.bp_load.specs.Inherited.{placed_raw}
use Rattle.bp_load.specs.Loaded.{all_typed}

-- a list that is cut in two
pub taken_and_dropped : {A : Type 0} (all front back : List A) (at : ℕ) → front ≡ take at all → back ≡ drop at all
    → front ++ back ≡ all
taken_and_dropped all front back at first second =
    ap (λ xs. xs ++ back) first ∙ ap (λ ys. take at all ++ ys) second ∙ take-append-drop at all

-- What a whole means, of which two halves mean something: the first fault, or both lists, one behind the other.
pub record IsOfHalves {V : Type 0} (Front Back Whole : Result (List V) Fault → Type 0) : Type 0 where
  pub front : (fault : Fault) → Front (Err fault) → Whole (Err fault)
  pub back : (vs : List V) (fault : Fault) → Front (Ok vs) → Back (Err fault) → Whole (Err fault)
  pub both : (vs ws : List V) → Front (Ok vs) → Back (Ok ws) → Whole (Ok (vs ++ ws))

module _ {T V : Type 0} (view : T → V) (Front Back Whole : Result (List V) Fault → Type 0)
    (halves : IsOfHalves Front Back Whole) where
  abbrev shown : Vec T Global → List V
  shown made = map view made.items

  refused_front : (refusal : Refusal) → Tells shown Front (Err refusal) → Tells shown Whole (Err refusal)
  refused_front (Bad fault) first = halves.front fault first
  refused_front OutOfMemory first = tt

  refused_back : (front : Vec T Global) (refusal : Refusal) → Front (Ok (shown front)) → Tells shown Back (Err refusal)
      → Tells shown Whole (Err refusal)
  refused_back front (Bad fault) made first = halves.back (shown front) fault made first
  refused_back front OutOfMemory made first = tt

  one_behind : (front back : Vec T Global) (whole : Result (Vec T Global) Refusal) → Front (Ok (shown front))
      → Back (Ok (shown back))
      → AppendMeans front.items back.items whole → Tells shown Whole whole
  one_behind front back (Ok all) made more is =
      subst (λ vs. Whole (Ok vs)) (sym (ap (map view) is ∙ map-append view front.items back.items))
      (halves.both (shown front) (shown back) made more)
  one_behind front back (Err refusal) made more is = subst (λ r. Tells shown Whole (Err r)) (sym is) tt

  pub told_joined : (front back whole : Result (Vec T Global) Refusal) → Tells shown Front front → Tells shown Back back
      → JoinMeans front back whole → Tells shown Whole whole
  told_joined (Err refusal) back whole first second is =
      subst (Tells shown Whole) (sym is) (refused_front refusal first)
  told_joined (Ok front) (Err refusal) whole first second is =
      subst (Tells shown Whole) (sym is) (refused_back front refusal first second)
  told_joined (Ok front) (Ok back) whole first second is = one_behind front back whole first second is

-- a numbered list, one half behind the other

module _ {A B : Type 0} (Means : ℕ → A → Result B Fault → Type 0) where
  each_append : (n : ℕ) (xs zs : List A) (ys ws : List B) → Each Means n xs ys → Each Means (n + length xs) zs ws
      → Each Means n (xs ++ zs) (ys ++ ws)
  each_append n [] zs [] ws front back = subst (λ k. Each Means k zs ws) (omega arith) back
  each_append n [] zs (y ∷ ys) ws front back = absurd front
  each_append n (x ∷ xs) zs [] ws front back = absurd front
  each_append n (x ∷ xs) zs (y ∷ ys) ws front back =
      (front.0, each_append (n + 1) xs zs ys ws front.1 (subst (λ k. Each Means k zs ws) (omega arith) back))

  fault_in_front : (n : ℕ) (xs zs : List A) (fault : Fault) → IsFirstOf Means n xs fault
      → IsFirstOf Means n (xs ++ zs) fault
  fault_in_front n xs zs fault first = record {
    at = first.at;
    inside = omega (arith, first.inside, length-append xs zs);
    before = first.before;
    each =
        subst (λ ys. Each Means n ys first.before)
        (sym (take-append-le first.at xs zs (omega (arith, first.inside)))) first.each;
    here =
        λ d. subst (λ x. Means (n + first.at) x (Err fault)) (sym (get_or_append_left xs zs d first.at first.inside))
        (first.here d);
  }

  fault_in_back : (n : ℕ) (xs zs : List A) (ys : List B) (fault : Fault) → Each Means n xs ys
      → IsFirstOf Means (n + length xs) zs fault → IsFirstOf Means n (xs ++ zs) fault
  fault_in_back n xs zs ys fault front first = record {
    at = length xs + first.at;
    inside = omega (arith, first.inside, length-append xs zs);
    before = ys ++ first.before;
    each = subst (λ vs. Each Means n vs (ys ++ first.before)) (sym (take-append-add xs zs first.at))
        (each_append n xs (take first.at zs) ys first.before front first.each);
    here = λ d. subst (λ x. Means (n + (length xs + first.at)) x (Err fault)) (sym (get_or-append-add xs zs first.at d))
        (subst (λ k. Means k (get_or zs first.at d) (Err fault)) (omega arith) (first.here d));
  }

  pub phase_halves : (n : ℕ) (xs zs : List A)
      → IsOfHalves (Phase Means n xs) (Phase Means (n + length xs) zs) (Phase Means n (xs ++ zs))
  phase_halves n xs zs = record {
    front = λ fault first. fault_in_front n xs zs fault first;
    back = λ ys fault front first. fault_in_back n xs zs ys fault front first;
    both = λ ys ws front back. each_append n xs zs ys ws front back;
  }

-- what both halves come to, where each means a list or a fault

abbrev pub and_then : {V : Type 0} → Result (List V) Fault → Result (List V) Fault → Result (List V) Fault
and_then front back = then_do front (λ ms. then_do back (λ more. Ok (ms ++ more)))

module _ {T V : Type 0} (show : Vec T Global → List V)
    (joins : (front back all : Vec T Global) → all.items ≡ front.items ++ back.items
    → show all ≡ show front ++ show back) where
  pub both_answered : (first second : Result (List V) Fault) (front back whole : Result (Vec T Global) Refusal)
      → Answers show front first
      → Answers show back second → JoinMeans front back whole → Answers show whole (and_then first second)
  both_answered first second (Err (Bad fault)) back whole a b is =
      subst (λ r. Answers show r (and_then first second)) (sym is) (ap (λ o. and_then o second) a)
  both_answered first second (Err OutOfMemory) back whole a b is =
      subst (λ r. Answers show r (and_then first second)) (sym is) tt
  both_answered first second (Ok front) (Err (Bad fault)) whole a b is =
      subst (λ r. Answers show r (and_then first second)) (sym is)
      (ap (λ o. and_then o second) a ∙ ap (and_then (Ok (show front))) b)
  both_answered first second (Ok front) (Err OutOfMemory) whole a b is =
      subst (λ r. Answers show r (and_then first second)) (sym is) tt
  both_answered first second (Ok front) (Ok back) (Ok all) a b is =
      ap (λ o. and_then o second) a ∙ ap (and_then (Ok (show front))) b ∙ ap Ok (sym (joins front back all is))
  both_answered first second (Ok front) (Ok back) (Err refusal) a b is =
      subst (λ r. Answers show (Err r) (and_then first second)) (sym is) tt

-- modules that are typed, one half behind the other

typed_append : (xs ys : List (List ℕ × Raw)) → all_typed (xs ++ ys) ≡ and_then (all_typed xs) (all_typed ys)
typed_append [] ys = by (all_typed ys)
  where
    by : (back : Result (List Module) Fault) → back ≡ then_do back (λ more. Ok ([] ++ more))
    by (Ok more) = refl
    by (Err fault) = refl
typed_append (x ∷ xs) ys = by (typed_module x.1 x.0) (all_typed xs) (all_typed ys) (typed_append xs ys)
  where
    by : (made : Result (Option Module) Fault) (front back : Result (List Module) Fault)
        → all_typed (xs ++ ys) ≡ and_then front back
        → then_do made (λ m. then_do (all_typed (xs ++ ys)) (λ more. Ok (option_to_list m ++ more)))
        ≡ and_then (then_do made (λ m. then_do front (λ more. Ok (option_to_list m ++ more)))) back
    by (Err fault) front back is = refl
    by (Ok m) (Err fault) back is = ap (λ r. then_do r (λ more. Ok (option_to_list m ++ more))) is
    by (Ok m) (Ok ms) (Err fault) is = ap (λ r. then_do r (λ more. Ok (option_to_list m ++ more))) is
    by (Ok m) (Ok ms) (Ok more) is =
        ap (λ r. then_do r (λ more. Ok (option_to_list m ++ more))) is
        ∙ ap Ok (sym (append_assoc (option_to_list m) ms more))

abbrev items : Vec Module Global → List Module
items made = made.items

pub typed_joined : (all xs ys : List (List ℕ × RawModule)) → xs ++ ys ≡ all
    → (front back whole : Result (Vec Module Global) Refusal)
    → Answers items front (all_typed (map placed_raw xs)) → Answers items back (all_typed (map placed_raw ys))
    → JoinMeans front back whole
    → Answers items whole (all_typed (map placed_raw all))
typed_joined all xs ys is front back whole a b joins =
    let parts : all_typed (map placed_raw all)
    ≡ and_then (all_typed (map placed_raw xs)) (all_typed (map placed_raw ys)) =
    ap (λ raws. all_typed (map placed_raw raws)) (sym is)
    ∙ ap all_typed (map-append placed_raw xs ys)
    ∙ typed_append (map placed_raw xs) (map placed_raw ys) in
    subst (Answers items whole) (sym parts) (both_answered items (λ front back all is. is)
    (all_typed (map placed_raw xs)) (all_typed (map placed_raw ys)) front back whole a b joins)
