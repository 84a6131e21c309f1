-- The names of variants have letters, digits and `_` alone.
use Rattle.std.proofs.Common.{◌≡◌, ◌<◌, ◌==◌, ◌++◌, ◌&&◌, ◌%◌, ◌/◌, ℕ, zero, suc, Bool, true, false, cond, List, []}
use Rattle.std.proofs.Common.{◌∷◌, refl, arith}
use Rattle.std.specs.Prelude.{codes}
use Rattle.std.specs.List.{AllByRecursion, filter, flat_map, join_by, list_all}
use Rattle.std.specs.Fmt.{decimal, digits, digits_onto, digit_glyph}
use Rattle.std.proofs.lemmas.Bool.Decides.{nat_tests}
use Rattle.bp_faults.specs.declared.target.Target.{Target}
use Rattle.bp_faults.specs.declared.target.Target.TheVariants.{AndroidArm64, AndroidArm, AndroidX86_64, AndroidX86}
use Rattle.bp_faults.specs.declared.target.Target.TheVariants.{LinuxGlibcX86_64, LinuxGlibcX86}
use Rattle.bp_faults.specs.Targets.{target_name}
use Rattle.bp_faults.proofs.Lists.{all_append}
use Rattle.graph_nodes.specs.declared.variation.Variation.{Variation}
use Rattle.graph_nodes.specs.declared.variation.Variation.TheVariants.{Empty, Target as ForTarget, Common, Vendor}
use Rattle.graph_nodes.specs.declared.variation.Variation.TheVariants.{Recovery, Static, Shared, PerSource, Asan}
use Rattle.graph_nodes.specs.Names.{spelling, is_set, is_label_byte, variant_name_of}

abbrev IsPlain : ℕ → Type 0
IsPlain c = is_label_byte c ≡ true

one_more : (c : ℕ) (cs : List ℕ) (b : Bool) → is_label_byte c ≡ b
    → (list_all is_label_byte cs ≡ true → AllByRecursion IsPlain cs) → (b && list_all is_label_byte cs) ≡ true
    → AllByRecursion IsPlain (c ∷ cs)
one_more c cs true is rest h = (is, rest h)
one_more c cs false is rest h = cc

-- a text whose characters are tested
plain_if : (cs : List ℕ) → list_all is_label_byte cs ≡ true → AllByRecursion IsPlain cs
plain_if [] h = tt
plain_if (c ∷ cs) h = one_more c cs (is_label_byte c) refl (plain_if cs) h

digit_plain : (n : ℕ) → IsPlain (digit_glyph false (n % 10))
digit_plain n = let less : n % 10 < 10 = omega arith in grind (arith, nat_tests)

either : (b : Bool) (xs ys : List ℕ) → AllByRecursion IsPlain xs → AllByRecursion IsPlain ys
    → AllByRecursion IsPlain (cond b xs ys)
either true xs ys h k = h
either false xs ys h k = k

digits_plain : (k n : ℕ) (acc : List ℕ) → AllByRecursion IsPlain acc
    → AllByRecursion IsPlain (digits_onto k 10 false n acc)
digits_plain zero n acc h = h
digits_plain (suc k) n acc h =
    either (n / 10 == 0) (digit_glyph false (n % 10) ∷ acc)
    (digits_onto k 10 false (n / 10) (digit_glyph false (n % 10) ∷ acc))
    (digit_plain n, h) (digits_plain k (n / 10) (digit_glyph false (n % 10) ∷ acc) (digit_plain n, h))

decimal_plain : (n : ℕ) → AllByRecursion IsPlain (decimal n)
unfolding digits
decimal_plain n = digits_plain 64 n [] tt

target_plain : (t : Target) → AllByRecursion IsPlain (target_name t)
target_plain AndroidArm64 = plain_if (codes "android_arm64") refl
target_plain AndroidArm = plain_if (codes "android_arm") refl
target_plain AndroidX86_64 = plain_if (codes "android_x86_64") refl
target_plain AndroidX86 = plain_if (codes "android_x86") refl
target_plain LinuxGlibcX86_64 = plain_if (codes "linux_glibc_x86_64") refl
target_plain LinuxGlibcX86 = plain_if (codes "linux_glibc_x86") refl

spelling_plain : (v : Variation) → AllByRecursion IsPlain (spelling v)
spelling_plain Empty = tt
spelling_plain (ForTarget t) = target_plain t
spelling_plain Common = plain_if (codes "common") refl
spelling_plain Vendor = plain_if (codes "vendor") refl
spelling_plain Recovery = plain_if (codes "recovery") refl
spelling_plain Static = plain_if (codes "static") refl
spelling_plain Shared = plain_if (codes "shared") refl
spelling_plain (PerSource k) = (refl, decimal_plain k)
spelling_plain Asan = plain_if (codes "asan") refl

behind_plain : (vs : List Variation) → AllByRecursion IsPlain (flat_map (λ y. codes "_" ++ spelling y) vs)
behind_plain [] = tt
behind_plain (v ∷ vs) = (
  refl,
  all_append IsPlain (spelling v) (flat_map (λ y. codes "_" ++ spelling y) vs) (spelling_plain v) (behind_plain vs),
)

joined_plain : (vs : List Variation) → AllByRecursion IsPlain (join_by spelling (codes "_") vs)
joined_plain [] = tt
joined_plain (v ∷ vs) =
    all_append IsPlain (spelling v) (flat_map (λ y. codes "_" ++ spelling y) vs) (spelling_plain v) (behind_plain vs)

pub plain_name : (variations : List Variation) → AllByRecursion IsPlain (variant_name_of variations)
plain_name variations = joined_plain (filter is_set variations)
