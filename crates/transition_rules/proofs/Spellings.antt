-- A variation is read back from its spelling.
use Rattle.std.proofs.Common.{◌≡◌, ◌∙◌, ◌+◌, ◌==◌, ℕ, cond, List, [], ◌∷◌, ap, refl, sym}
use Rattle.std.specs.List.{sum_by}
use Rattle.std.specs.Str.Parse.{digits_value}
use Rattle.std.proofs.lemmas.Fmt.{decimal_is_IsNumeral}
use Rattle.bp_faults.specs.declared.target.Target.TheVariants.{AndroidArm64, AndroidArm, AndroidX86_64, AndroidX86}
use Rattle.bp_faults.specs.declared.target.Target.TheVariants.{LinuxGlibcX86_64, LinuxGlibcX86}
use Rattle.graph_nodes.specs.declared.variation.Variation.{Variation}
use Rattle.graph_nodes.specs.declared.variation.Variation.TheVariants.{Empty, Target, Common, Vendor, Recovery}
use Rattle.graph_nodes.specs.declared.variation.Variation.TheVariants.{Static, Shared, PerSource, Asan}
use Rattle.graph_nodes.specs.Names.{spelling}
use Rattle.transition_rules.specs.Spelled.{FitsNumber}

-- the sums of the other spellings differ
by_sum : ℕ → Variation
by_sum sum =
    cond (sum == 1258) (Target AndroidArm64)
    (cond (sum == 1152) (Target AndroidArm)
    (cond (sum == 1263) (Target AndroidX86_64)
    (cond (sum == 1062) (Target AndroidX86)
    (cond (sum == 1694) (Target LinuxGlibcX86_64)
    (cond (sum == 1493) (Target LinuxGlibcX86)
    (cond (sum == 649) Common
    (cond (sum == 654) Vendor
    (cond (sum == 879) Recovery
    (cond (sum == 648) Static
    (cond (sum == 631) Shared
    (cond (sum == 419) Asan Empty)))))))))))

-- only that of a source begins with a t
read : List ℕ → Variation
read [] = Empty
read (c ∷ cs) = cond (c == 116) (PerSource (digits_value 10 cs)) (by_sum (c + sum_by (λ k. k) cs))

read_back : (v : Variation) → FitsNumber v → read (spelling v) ≡ v
unfolding read by_sum
read_back Empty h = refl
read_back (Target AndroidArm64) h = refl
read_back (Target AndroidArm) h = refl
read_back (Target AndroidX86_64) h = refl
read_back (Target AndroidX86) h = refl
read_back (Target LinuxGlibcX86_64) h = refl
read_back (Target LinuxGlibcX86) h = refl
read_back Common h = refl
read_back Vendor h = refl
read_back Recovery h = refl
read_back Static h = refl
read_back Shared h = refl
read_back (PerSource n) h = ap PerSource (decimal_is_IsNumeral n h).1
read_back Asan h = refl

pub same_spelled : (v w : Variation) → FitsNumber v → FitsNumber w → spelling v ≡ spelling w → v ≡ w
same_spelled v w fv fw e = sym (read_back v fv) ∙ ap read e ∙ read_back w fw
