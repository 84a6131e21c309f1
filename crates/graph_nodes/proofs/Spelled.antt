-- The name of a variant grows by one variation.
use Rattle.std.proofs.Common.{◌≡◌, ◌≢◌, ◌+◌, ◌<◌, ◌++◌, ℕ, true, List, [], ◌∷◌, length, get_or, take, refl, ap, ◌∙◌}
use Rattle.std.proofs.Common.{sym, append-nil, arith}
use Rattle.std.specs.Prelude.{codes}
use Rattle.std.specs.List.{All, filter, flat_map, join_by}
use Rattle.std.proofs.lemmas.List.{take_more, flat_map_more}
use Rattle.std.proofs.lemmas.List.Elements.{filter-append, filter_passes}
use Rattle.bp_faults.specs.declared.target.Target.{Target}
use Rattle.bp_faults.specs.declared.target.Target.TheVariants.{AndroidArm64, AndroidArm, AndroidX86_64, AndroidX86}
use Rattle.bp_faults.specs.declared.target.Target.TheVariants.{LinuxGlibcX86_64, LinuxGlibcX86}
use Rattle.bp_faults.specs.Targets.{target_name}
use Rattle.graph_nodes.specs.declared.variation.Variation.{Variation}
use Rattle.graph_nodes.specs.declared.variation.Variation.TheVariants.{Empty, Target as ForTarget, Common, Vendor}
use Rattle.graph_nodes.specs.declared.variation.Variation.TheVariants.{Recovery, Static, Shared, PerSource, Asan}
use Rattle.graph_nodes.specs.Inside.{name_with}
use Rattle.graph_nodes.specs.Names.{spelling, is_set, variant_name_of}

target_named : (t : Target) → target_name t ≢ []
target_named AndroidArm64 = λ e. cc
target_named AndroidArm = λ e. cc
target_named AndroidX86_64 = λ e. cc
target_named AndroidX86 = λ e. cc
target_named LinuxGlibcX86_64 = λ e. cc
target_named LinuxGlibcX86 = λ e. cc

spelled : (v : Variation) → is_set v ≡ true → spelling v ≢ []
spelled Empty set = cc
spelled (ForTarget t) set = target_named t
spelled Common set = λ e. cc
spelled Vendor set = λ e. cc
spelled Recovery set = λ e. cc
spelled Static set = λ e. cc
spelled Shared set = λ e. cc
spelled (PerSource k) set = λ e. cc
spelled Asan set = λ e. cc

not_empty : (xs ys : List ℕ) → xs ≢ [] → (xs ++ ys) ≢ []
not_empty [] ys ne = absurd (ne refl)
not_empty (x ∷ xs) ys ne = λ e. cc

added_none : (name : List ℕ) → name_with name [] ≡ name
added_none [] = refl
added_none (c ∷ name) = refl

added_both : (name more : List ℕ) → name ≢ [] → more ≢ [] → name_with name more ≡ name ++ (codes "_" ++ more)
added_both [] more n m = absurd (n refl)
added_both (c ∷ name) [] n m = absurd (m refl)
added_both (c ∷ name) (d ∷ more) n m = refl

abbrev joined : List Variation → List ℕ
joined vs = join_by spelling (codes "_") vs

joined_set : (vs : List Variation) → All (λ v. is_set v ≡ true) vs → (v : Variation) → is_set v ≡ true
    → name_with (joined vs) (spelling v) ≡ joined (vs ++ v ∷ [])
joined_set [] all v set = sym (append-nil (spelling v))
joined_set (w ∷ vs) all v set =
    added_both (joined (w ∷ vs)) (spelling v) (not_empty (spelling w) (flat_map (λ y. codes "_" ++ spelling y) vs)
    (spelled w (all 0 w (omega arith)))) (spelled v set)
    ∙ flat_map_more (λ y. codes "_" ++ spelling y) (spelling w) vs v

joined_more : (vs : List Variation) → All (λ v. is_set v ≡ true) vs → (v : Variation)
    → name_with (joined vs) (spelling v) ≡ joined (vs ++ filter is_set (v ∷ []))
joined_more vs all Empty = added_none (joined vs) ∙ sym (ap joined (append-nil vs))
joined_more vs all (ForTarget t) = joined_set vs all (ForTarget t) refl
joined_more vs all Common = joined_set vs all Common refl
joined_more vs all Vendor = joined_set vs all Vendor refl
joined_more vs all Recovery = joined_set vs all Recovery refl
joined_more vs all Static = joined_set vs all Static refl
joined_more vs all Shared = joined_set vs all Shared refl
joined_more vs all (PerSource k) = joined_set vs all (PerSource k) refl
joined_more vs all Asan = joined_set vs all Asan refl

-- one variation more
pub name_more : (vs : List Variation) (i : ℕ) (d : Variation) → i < length vs
    → name_with (variant_name_of (take i vs)) (spelling (get_or vs i d)) ≡ variant_name_of (take (i + 1) vs)
name_more vs i d lt =
    joined_more (filter is_set (take i vs)) (filter_passes is_set (take i vs)) (get_or vs i d)
    ∙ ap joined (sym (filter-append is_set (take i vs) (get_or vs i d ∷ [])))
    ∙ ap variant_name_of (sym (take_more vs i d lt))
