-- A tree that loads has at most 2^17 modules.
use Rattle.std.proofs.Common.{◌≡◌, ◌≤◌, ◌<◌, ◌+◌, ℕ, List, [], ◌∷◌, ◌++◌, length, Bool, true, false, Result, Ok}
use Rattle.std.proofs.Common.{Err, refl, subst, arith}
use Rattle.std.specs.Prelude.{nat_le, if◌then◌else◌, codes}
use Rattle.bp_faults.specs.declared.kind.FaultKind.TheVariants.{DuplicateName, TooMany}
use Rattle.bp_faults.specs.Faults.{fault_on}
use Rattle.bp_faults.specs.declared.fault.Fault.{Fault}
use Rattle.bp_faults.specs.declared.limits.TheConstants.{MOST_MODULES}
use Rattle.bp_faults.specs.Answers.{then_do}
use Rattle.bp_props.specs.declared.module.Module.{Module}
use Rattle.bp_load.specs.Loaded.{names_tested, name_tested, name_check, all_typed, has_module_named, name_place}
use Rattle.bp_load.specs.Loaded.{LoadMeans}
use Rattle.std.proofs.lemmas.Bool.{leb-false}
use Rattle.std.proofs.lemmas.List.{length-append}

done_first : (a b : Result Unit Fault) → then_do a (λ fine. b) ≡ Ok tt → a ≡ Ok tt
done_first (Ok done) b h = refl
done_first (Err fault) b h = cc

done_then : (a b : Result Unit Fault) → then_do a (λ fine. b) ≡ Ok tt → b ≡ Ok tt
done_then (Ok done) b h = h
done_then (Err fault) b h = cc

abbrev fine : Result Unit Fault
fine = Ok tt

-- a module that is fine stands behind fewer than the limit
few_before : (count : ℕ) (seen : Bool) (m : Module) → name_check count seen m ≡ Ok tt → count < MOST_MODULES
few_before count seen m h = by (nat_le MOST_MODULES count) refl h
  where
    by : (over : Bool) → nat_le MOST_MODULES count ≡ over
        → (if over then Err (fault_on TooMany m.at (codes "modules")) else if seen then Err
        (fault_on DuplicateName (name_place m.at m.props.name) m.name) else fine) ≡ fine → count < MOST_MODULES
    by true is h = absurd (cc)
    by false is h = leb-false MOST_MODULES count is

few_in_all : (before ms : List Module) → length before ≤ MOST_MODULES → names_tested before ms ≡ Ok tt
    → length before + length ms ≤ MOST_MODULES
few_in_all before [] few h = omega (arith, few)
few_in_all before (m ∷ ms) few h =
    let here =
    few_before (length before) (has_module_named m.name before) m
    (done_first (name_tested before m) (names_tested (before ++ m ∷ []) ms) h) in
    let size = length-append before (m ∷ []) in
    let rest =
    few_in_all (before ++ m ∷ []) ms (omega (arith, here, size))
    (done_then (name_tested before m) (names_tested (before ++ m ∷ []) ms) h) in
    omega (arith, rest, size)

few_named : (modules : Result (List Module) Fault) (ms : List Module)
    → then_do modules (λ ms. then_do (names_tested [] ms) (λ fine. Ok ms)) ≡ Ok ms → length ms ≤ MOST_MODULES
few_named (Err fault) ms h = absurd (cc)
few_named (Ok made) ms h = by (names_tested [] made) refl h
  where
    by : (fine : Result Unit Fault) → names_tested [] made ≡ fine → then_do fine (λ fine. Ok made) ≡ Ok ms
        → length ms ≤ MOST_MODULES
    by (Err fault) is h = absurd (cc)
    by (Ok done) is h = let same : made ≡ ms = cc in let few = few_in_all [] made (omega arith) is in
        subst (λ ms. length ms ≤ MOST_MODULES) same (omega (arith, few))

pub few_modules : (files : List (List ℕ × List ℕ)) (ms : List Module) → LoadMeans files (Ok ms)
    → length ms ≤ MOST_MODULES
few_modules files ms (Ok raws, means, is) = few_named (all_typed raws) ms is
few_modules files ms (Err fault, means, is) = absurd (cc)
