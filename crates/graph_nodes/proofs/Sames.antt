-- The test of variations tells whether they are equal.
use Rattle.std.proofs.Common.{◌≡◌, ℕ, zero, suc, Bool, true, false, ◌&&◌, refl, ap, ◌∙◌, sym, subst, arith, eq-eqb}
use Rattle.std.proofs.Common.{nat_eq}
use Rattle.std.specs.Prelude.{◌↔◌, IsTrue}
use Rattle.std.proofs.lemmas.Bool.Decides.{nat_tests}
use Rattle.std.proofs.lemmas.Bool.{and_parts}
use Rattle.bp_faults.specs.declared.target.Target.{Target}
use Rattle.bp_faults.specs.declared.target.Target.TheVariants.{AndroidArm64, AndroidArm, AndroidX86_64, AndroidX86}
use Rattle.bp_faults.specs.declared.target.Target.TheVariants.{LinuxGlibcX86_64, LinuxGlibcX86}
use Rattle.bp_faults.specs.Targets.{target_rank}
use Rattle.graph_nodes.specs.declared.variation.Variation.{Variation}
use Rattle.graph_nodes.specs.declared.variation.Variation.TheVariants.{Empty, Target as OfTarget, Common, Vendor}
use Rattle.graph_nodes.specs.declared.variation.Variation.TheVariants.{Recovery, Static, Shared, PerSource, Asan}
use Rattle.graph_nodes.specs.Same.{sort_number, own_number, same}

-- a target and a variation, back from their numbers
target_from : ℕ → Target
target_from zero = AndroidArm64
target_from (suc zero) = AndroidArm
target_from (suc (suc zero)) = AndroidX86_64
target_from (suc (suc (suc zero))) = AndroidX86
target_from (suc (suc (suc (suc zero)))) = LinuxGlibcX86_64
target_from (suc (suc (suc (suc (suc n))))) = LinuxGlibcX86

target_back : (t : Target) → target_from (target_rank t) ≡ t
unfolding target_from
target_back AndroidArm64 = refl
target_back AndroidArm = refl
target_back AndroidX86_64 = refl
target_back AndroidX86 = refl
target_back LinuxGlibcX86_64 = refl
target_back LinuxGlibcX86 = refl

variation_from : ℕ → ℕ → Variation
variation_from zero n = Empty
variation_from (suc zero) n = OfTarget (target_from n)
variation_from (suc (suc zero)) n = Common
variation_from (suc (suc (suc zero))) n = Vendor
variation_from (suc (suc (suc (suc zero)))) n = Recovery
variation_from (suc (suc (suc (suc (suc zero))))) n = Static
variation_from (suc (suc (suc (suc (suc (suc zero)))))) n = Shared
variation_from (suc (suc (suc (suc (suc (suc (suc zero))))))) n = PerSource n
variation_from (suc (suc (suc (suc (suc (suc (suc (suc m)))))))) n = Asan

variation_back : (v : Variation) → variation_from (sort_number v) (own_number v) ≡ v
unfolding variation_from
variation_back Empty = refl
variation_back (OfTarget t) = ap OfTarget (target_back t)
variation_back Common = refl
variation_back Vendor = refl
variation_back Recovery = refl
variation_back Static = refl
variation_back Shared = refl
variation_back (PerSource n) = refl
variation_back Asan = refl

pub same_self : (v : Variation) → same v v ≡ true
unfolding same
same_self v =
    ap (λ b. b && nat_eq (own_number v) (own_number v)) (eq-eqb (sort_number v) (sort_number v) refl)
    ∙ eq-eqb (own_number v) (own_number v) refl

number_same : (m n : ℕ) → nat_eq m n ≡ true → m ≡ n
number_same m n h = grind (arith, nat_tests)

pub same_is : (v w : Variation) → same v w ≡ true → v ≡ w
unfolding same
same_is v w h =
    let b = and_parts (nat_eq (sort_number v) (sort_number w)) (nat_eq (own_number v) (own_number w)) h in
    let s = number_same (sort_number v) (sort_number w) b.0 in
    let o = number_same (own_number v) (own_number w) b.1 in
    sym (variation_back v) ∙ (λ i. variation_from (s i) (o i)) ∙ variation_back w

pub equal_same : (v w : Variation) → v ≡ w → same v w ≡ true
equal_same v w is = subst (λ x. same v x ≡ true) is (same_self v)

not_true : (b : Bool) → (b ≡ true → ⊥) → b ≡ false
not_true true h = absurd (h refl)
not_true false h = refl

-- what tells whether two variations are equal is the test
pub told_same : (told : Bool) (v w : Variation) → IsTrue told ↔ v ≡ w → told ≡ same v w
told_same true v w iff = sym (equal_same v w (iff.0 refl))
told_same false v w iff = sym (not_true (same v w) (λ h. let never : false ≡ true = iff.1 (same_is v w h) in cc))
