-- No two variants that a rule makes of a node have one variation.
use Rattle.std.proofs.Common.{◌≡◌, ◌≢◌, ◌++◌, List, [], ◌∷◌, Bool, true, false, cond, suc, zero, subst, sym, ◌∙◌, ap}
use Rattle.std.proofs.Common.{arith, append-nil}
use Rattle.std.specs.List.{AllByRecursion, AllPairs}
use Rattle.std.proofs.lemmas.List.{append_assoc}
use Rattle.std.proofs.lemmas.List.Elements.{All-from_recursion, recursion_from_All}
use Rattle.std.proofs.lemmas.List.Kept.{AllPairs-cons}
use Rattle.bp_faults.specs.declared.target.Target.{Target}
use Rattle.bp_props.specs.declared.group_id.GroupId.TheVariants as G
use Rattle.bp_props.specs.declared.kind.ModuleKind.{ModuleKind}
use Rattle.bp_props.specs.declared.kind.ModuleKind.TheVariants.{Binary, Library, LibraryStatic, LibraryShared}
use Rattle.bp_props.specs.declared.kind.ModuleKind.TheVariants.{LibraryHeaders, Test, Defaults, Filegroup}
use Rattle.bp_props.specs.declared.props.Props.{Props}
use Rattle.graph_nodes.specs.declared.variation.Variation.{Variation}
use Rattle.graph_nodes.specs.declared.variation.Variation.TheVariants.{Empty, Common, Vendor, Recovery, Target as For}
use Rattle.module_rules.specs.Flags.{is_enabled}
use Rattle.module_rules.specs.Groups.{with_group}
use Rattle.module_rules.specs.Laws.{VariantsDiffer}
use Rattle.target_mutators.specs.Arch.{is_built, target_variants, variants_for_targets}
use Rattle.target_mutators.specs.Groups.{with_groups}
use Rattle.target_mutators.specs.Images.{is_for_device, is_in_system, is_in_vendor, is_in_recovery, device_images}
use Rattle.target_mutators.specs.Images.{images_of}
use Rattle.target_mutators.specs.Targets.{groups_of}

abbrev Differ : Variation × Props → Variation × Props → Type 0
Differ b c = b.0 ≢ c.0

abbrev kept : Bool → Bool → Variation × Props → List (Variation × Props)
kept is_in is_on v = cond is_in (cond is_on (v ∷ []) []) []

none_differ : VariantsDiffer []
none_differ i j d before inside = absurd (omega arith)

-- a variant that may be there stands before others from which it differs
first_differs : (is_in is_on : Bool) (v : Variation × Props) (rest : List (Variation × Props))
    → AllByRecursion (Differ v) rest → VariantsDiffer rest → VariantsDiffer (kept is_in is_on v ++ rest)
first_differs true true v rest apart differ =
    AllPairs-cons Differ v rest (All-from_recursion (Differ v) rest apart) differ
first_differs true false v rest apart differ = differ
first_differs false is_on v rest apart differ = differ

first_holds : (Holds : Variation × Props → Type 0) (is_in is_on : Bool) (v : Variation × Props)
    (rest : List (Variation × Props))
    → Holds v → AllByRecursion Holds rest → AllByRecursion Holds (kept is_in is_on v ++ rest)
first_holds Holds true true v rest here there = (here, there)
first_holds Holds true false v rest here there = there
first_holds Holds false is_on v rest here there = there

same_target : {t u : Target} → For t ≡ For u → t ≡ u
same_target e = cc

module _ (kind : ModuleKind) (p : Props) where
  -- the variants of some targets are for these alone
  other_targets : (t : Target) (own : Props) (before targets : List Target) → AllByRecursion (λ u. t ≢ u) targets
      → AllByRecursion (Differ (For t, own)) (target_variants kind p before targets)
  other_targets t own before [] apart = tt
  other_targets t own before (u ∷ us) apart =
      let made = with_groups p (groups_of u) in
      first_holds (Differ (For t, own)) (is_built kind p before u) (is_enabled made) (For u, made)
      (target_variants kind p (before ++ u ∷ []) us)
      (λ e. apart.0 (same_target e)) (other_targets t own (before ++ u ∷ []) us apart.1)

  -- targets that differ have variants that differ
  pub targets_differ : (before targets : List Target) → AllPairs (λ a b. a ≢ b) targets
      → VariantsDiffer (target_variants kind p before targets)
  targets_differ before [] apart = none_differ
  targets_differ before (t ∷ ts) apart =
      let made = with_groups p (groups_of t) in
      let others = recursion_from_All (λ u. t ≢ u) ts (λ j d lt. apart zero (suc j) d (omega arith) (omega arith)) in
      first_differs (is_built kind p before t) (is_enabled made) (For t, made)
      (target_variants kind p (before ++ t ∷ []) ts)
      (other_targets t made (before ++ t ∷ []) ts others)
      (targets_differ (before ++ t ∷ []) ts (λ i j d lt in'. apart (suc i) (suc j) d (omega arith) (omega arith)))

one_differs : (is_on : Bool) (v : Variation × Props) → VariantsDiffer (cond is_on (v ∷ []) [])
one_differs true v i j d before inside = absurd (omega arith)
one_differs false v i j d before inside = absurd (omega arith)

-- what `arch` makes of a node
pub arch_differ : (kind : ModuleKind) (p : Props) (targets : List Target) → AllPairs (λ a b. a ≢ b) targets
    → VariantsDiffer (variants_for_targets kind p targets)
arch_differ Defaults p targets apart = none_differ
arch_differ Filegroup p targets apart = one_differs (is_enabled p) (Common, p)
arch_differ Binary p targets apart = targets_differ Binary p [] targets apart
arch_differ Library p targets apart = targets_differ Library p [] targets apart
arch_differ LibraryStatic p targets apart = targets_differ LibraryStatic p [] targets apart
arch_differ LibraryShared p targets apart = targets_differ LibraryShared p [] targets apart
arch_differ LibraryHeaders p targets apart = targets_differ LibraryHeaders p [] targets apart
arch_differ Test p targets apart = targets_differ Test p [] targets apart

device_differ : (p : Props) → VariantsDiffer (device_images p)
device_differ p =
    let vendor = with_group p G.Vendor in
    let recovery = with_group p G.Recovery in
    let last = kept (is_in_recovery p) (is_enabled recovery) (Recovery, recovery) in
    let behind = kept (is_in_vendor p) (is_enabled vendor) (Vendor, vendor) in
    let whole : kept (is_in_system p) true (Empty, p) ++ (behind ++ (last ++ [])) ≡ device_images p
    =
    ap (λ l. kept (is_in_system p) true (Empty, p) ++ (behind ++ l)) (append-nil last)
    ∙ sym (append_assoc (kept (is_in_system p) true (Empty, p)) behind last) in
    subst VariantsDiffer whole
    (first_differs (is_in_system p) true (Empty, p) (behind ++ (last ++ []))
    (first_holds (Differ (Empty, p)) (is_in_vendor p) (is_enabled vendor) (Vendor, vendor) (last ++ []) (λ e. cc)
    (first_holds (Differ (Empty, p)) (is_in_recovery p) (is_enabled recovery) (Recovery, recovery) [] (λ e. cc) tt))
    (first_differs (is_in_vendor p) (is_enabled vendor) (Vendor, vendor) (last ++ [])
    (first_holds (Differ (Vendor, vendor)) (is_in_recovery p) (is_enabled recovery) (Recovery, recovery) []
    (λ e. cc) tt)
    (first_differs (is_in_recovery p) (is_enabled recovery) (Recovery, recovery) [] tt none_differ)))

-- what `image` makes of a node
pub images_differ : (target : Variation) (p : Props) → VariantsDiffer (images_of target p)
images_differ target p = by (is_for_device target)
  where
    by : (b : Bool) → VariantsDiffer (cond b (device_images p) ((Empty, p) ∷ []))
    by true = device_differ p
    by false = one_differs true (Empty, p)
