-- Modules typed in turn: what is left to type behind those that are.
use Rattle.std.proofs.Common.{◌≡◌, ℕ, ◌+◌, ◌<◌, List, ◌∷◌, ◌++◌, length, get_or, drop, refl, ap, sym, ◌∙◌, arith, suc}
use Rattle.std.proofs.Common.{append_assoc}
use Rattle.std.specs.Prelude.{Option, Result, Ok, Err}
use Rattle.std.specs.Option.{option_to_list}
use Rattle.std.proofs.Math.Seq.{drop-cons}
use Rattle.bp_faults.specs.declared.fault.Fault.{Fault}
use Rattle.bp_faults.specs.Answers.{then_do}
use Rattle.bp_props.specs.declared.module.Module.{Module}
use Rattle.bp_values.specs.Meaning.{Raw}
use Rattle.property_tables.specs.Meaning.{typed_module}
use Rattle.bp_load.specs.Loaded.{all_typed}

abbrev behind : List Module → Result (List Module) Fault → Result (List Module) Fault
behind done rest = then_do rest (λ more. Ok (done ++ more))

abbrev with_typed : List Module → Result (Option Module) Fault → Result (List Module) Fault
with_typed done made = then_do made (λ m. Ok (done ++ option_to_list m))

behind_more : (done here : List Module) (rest : Result (List Module) Fault)
    → behind done (then_do rest (λ more. Ok (here ++ more))) ≡ behind (done ++ here) rest
behind_more done here (Ok more) = ap Ok (sym (append_assoc done here more))
behind_more done here (Err fault) = refl

one_more : (i : ℕ) → suc i ≡ i + 1
one_more i = omega arith

from_here : (all : List (List ℕ × Raw)) (i : ℕ) (m : List ℕ × Raw) → i < length all → m ≡ get_or all i m
    → drop i all ≡ m ∷ drop (i + 1) all
from_here all i m within is =
    drop-cons all i m within ∙ ap (λ x. x ∷ drop (suc i) all) (sym is) ∙ ap (λ n. m ∷ drop n all) (one_more i)

-- what all give, once it is known what the next is typed as
valued : (all : List (List ℕ × Raw)) (i : ℕ) (done : List Module) (m : List ℕ × Raw) → i < length all
    → m ≡ get_or all i m → all_typed all ≡ behind done (all_typed (drop i all)) → (made : Result (Option Module) Fault)
    → typed_module m.1 m.0 ≡ made
    → all_typed all
    ≡ behind done (then_do made (λ o. then_do (all_typed (drop (i + 1) all)) (λ more. Ok (option_to_list o ++ more))))
valued all i done m within is rest made typed_as =
    rest ∙ ap (λ ms. behind done (all_typed ms)) (from_here all i m within is)
    ∙ ap (λ t. behind done
    (then_do t (λ o. then_do (all_typed (drop (i + 1) all)) (λ more. Ok (option_to_list o ++ more))))) typed_as

pub typed_more : (all : List (List ℕ × Raw)) (i : ℕ) (done new : List Module) (m : List ℕ × Raw) → i < length all
    → m ≡ get_or all i m → all_typed all ≡ behind done (all_typed (drop i all))
    → with_typed done (typed_module m.1 m.0) ≡ Ok new → all_typed all ≡ behind new (all_typed (drop (i + 1) all))
typed_more all i done new m within is rest taken = by (typed_module m.1 m.0) refl taken
  where
    by : (made : Result (Option Module) Fault) → typed_module m.1 m.0 ≡ made → with_typed done made ≡ Ok new
        → all_typed all ≡ behind new (all_typed (drop (i + 1) all))
    by (Ok o) made taken =
        let same : done ++ option_to_list o ≡ new = cc in
        valued all i done m within is rest (Ok o) made
        ∙ behind_more done (option_to_list o) (all_typed (drop (i + 1) all))
        ∙ ap (λ ms. behind ms (all_typed (drop (i + 1) all))) same
    by (Err fault) made taken = absurd (cc)

pub typed_fault : (all : List (List ℕ × Raw)) (i : ℕ) (done : List Module) (m : List ℕ × Raw) (fault : Fault)
    → i < length all → m ≡ get_or all i m → all_typed all ≡ behind done (all_typed (drop i all))
    → with_typed done (typed_module m.1 m.0) ≡ Err fault → all_typed all ≡ Err fault
typed_fault all i done m fault within is rest taken = by (typed_module m.1 m.0) refl taken
  where
    by : (made : Result (Option Module) Fault) → typed_module m.1 m.0 ≡ made → with_typed done made ≡ Err fault
        → all_typed all ≡ Err fault
    by (Ok o) made taken = absurd (cc)
    by (Err other) made taken = valued all i done m within is rest (Err other) made ∙ (cc)
