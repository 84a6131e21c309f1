-- Each pass makes a valid graph of a valid one, and so does the course of them.
use Rattle.std.proofs.Common.{◌≡◌, ◌<◌, ◌≤◌, ◌+◌, ⊎_elim, ℕ, zero, suc, List, [], ◌∷◌, Option, Some, None}
use Rattle.std.proofs.Common.{Result, Ok, Err, length, map, refl, sym, ap, ◌∙◌, subst, arith}
use Rattle.std.specs.Prelude.{slice_get, slice_index_or}
use Rattle.std.specs.Option.{option_map_or, unwrap_or}
use Rattle.std.specs.List.{AllByRecursion, position}
use Rattle.std.proofs.lemmas.Bool.{cases_lt}
use Rattle.std.proofs.lemmas.List.{length-map}
use Rattle.std.proofs.lemmas.List.Quantifiers.{position-Some}
use Rattle.bp_faults.specs.declared.fault.Fault.{Fault}
use Rattle.bp_faults.specs.declared.ids.NodeId.{NodeId}
use Rattle.bp_faults.specs.declared.limits.TheConstants.{MOST_MODULES}
use Rattle.bp_faults.proofs.Lists.{all_append, all_each}
use Rattle.bp_props.specs.declared.module.Module.{Module}
use Rattle.bp_props.specs.declared.props.Props.{Props}
use Rattle.serial_pass.specs.Laws.{OutsAreMany}
use Rattle.graph_nodes.specs.declared.graph.Edge.{Edge}
use Rattle.graph_nodes.specs.declared.graph.Node.{Node}
use Rattle.graph_nodes.specs.declared.variation.Variation.{Variation}
use Rattle.graph_nodes.specs.declared.variations.Axis.{Axis}
use Rattle.graph_nodes.specs.declared.variations.Axis.TheVariants as A
use Rattle.graph_nodes.specs.Nodes.{edges_at}
use Rattle.graph_nodes.specs.Numbered.{by_number}
use Rattle.graph_nodes.specs.Same.{same}
use Rattle.module_graph.specs.declared.direction.Direction.TheVariants.{BottomUp}
use Rattle.module_graph.specs.Planned.{plan_of}
use Rattle.module_rules.specs.Laws.{VariantsDiffer, VariationsDiffer}
use Rattle.module_rules.specs.Rules.{asks, renews, splits}
use Rattle.module_rules.specs.Seen.{at_module, empty_result}
use Rattle.mutator_kinds.specs.BottomUp.{BottomUpMeans, chosen, first_payloads, rule_along, variants_of}
use Rattle.mutator_kinds.specs.TopDown.{TopDownMeans}
use Rattle.mutator_rules.specs.declared.config.Config.{Config}
use Rattle.mutator_rules.specs.declared.request.Request.{Request}
use Rattle.mutator_rules.specs.declared.split.Split.{Split}
use Rattle.mutator_rules.specs.Configs.{TargetsDiffer}
use Rattle.mutator_rules.specs.Outcomes.{Made}
use Rattle.transition_rules.specs.Laws.{WantsSplit}
use Rattle.transition_rules.specs.Passes.{WantsMean, MutateMeans, wanted_variants}
use Rattle.variant_graphs.specs.Laws.{SplitsStayValid, SplitsKeepModules, OtherAxesStayFree}
use Rattle.variant_graphs.specs.Laws.{NewPayloadsStayValid, NewPayloadsKeepModules, NewPayloadsLeaveAxesFree}
use Rattle.variant_graphs.specs.Limits.{IsWithinLimits}
use Rattle.variant_graphs.specs.Payloads.{with_payloads}
use Rattle.variant_graphs.specs.Splits.{IsSplitting}
use Rattle.variant_graphs.specs.Splitting.{Splitting, splitting, split_nodes}
use Rattle.reverse_deps.specs.Applied.{ApplyMeans, AskInside}
use Rattle.defaults_mutator.specs.Asked.{defaults_asked}
use Rattle.defaults_mutator.specs.Merged.{defaults_merged}
use Rattle.target_mutators.specs.Arch.{arch_variants}
use Rattle.target_mutators.specs.Images.{image_variants}
use Rattle.target_mutators.specs.Laws.{TargetVariantsDiffer, ImageVariantsDiffer}
use Rattle.linkage_mutator.specs.Deps.{deps_asked}
use Rattle.linkage_mutator.specs.Laws.{LinkVariantsDiffer, SourceVariantsDiffer}
use Rattle.linkage_mutator.specs.Links.{link_variants}
use Rattle.linkage_mutator.specs.Plugins.{plugins_asked}
use Rattle.linkage_mutator.specs.Sources.{source_variants}
use Rattle.info_mutators.specs.Info.{info_meant}
use Rattle.info_mutators.specs.Laws.{OwnVariationsDiffer}
use Rattle.info_mutators.specs.Sanitize.{sanitize_meant}
use Rattle.info_mutators.specs.SdkLevel.{level_meant}
use Rattle.bp_pipeline.specs.Course.{CourseMeans}
use Rattle.bp_pipeline.specs.First.{first_nodes}
use Rattle.bp_pipeline.specs.Inside.{split_at}
use Rattle.bp_pipeline.specs.Limits.{ComesTo}
use Rattle.bp_pipeline.specs.Passes.{Answer, AskMeans, MakeMeans, StepMeans, pass_at}
use Rattle.output_forms.proofs.Linking.{Follows, applied_follows}
use Rattle.output_forms.proofs.Outs.{IfResult, outs_have}
use Rattle.output_forms.proofs.Starting.{IsGoodAt, started}
use Rattle.output_forms.proofs.Ways.{came, then_came}

-- What the layers below say of the graphs that they make.
pub record LowerLaws : Type 0 where
  pub splits_valid : SplitsStayValid Props (Variation × Props)
  pub splits_numbered : SplitsKeepModules Props (Variation × Props)
  pub splits_free : OtherAxesStayFree Props (Variation × Props)
  pub wants_valid : SplitsStayValid Props Variation
  pub wants_numbered : SplitsKeepModules Props Variation
  pub wants_free : OtherAxesStayFree Props Variation
  pub wants_split : WantsSplit Props
  pub own_differ : OwnVariationsDiffer
  pub renewed_valid : NewPayloadsStayValid Props
  pub renewed_numbered : NewPayloadsKeepModules Props
  pub renewed_free : NewPayloadsLeaveAxesFree Props
  pub many : OutsAreMany (Split Props)
  pub targets : TargetVariantsDiffer
  pub images : ImageVariantsDiffer
  pub links : LinkVariantsDiffer
  pub sources : SourceVariantsDiffer

-- A split along the axis of a pass

split_good : {B : Type 0} → SplitsStayValid Props B → SplitsKeepModules Props B → OtherAxesStayFree Props B
    → (s : Splitting Props B) (nodes : List (Node Props)) (p : ℕ) → split_at s.axis ≡ p → IsGoodAt p nodes
    → IsSplitting s nodes → IsWithinLimits (split_nodes s nodes) → IsGoodAt (suc p) (split_nodes s nodes)
split_good stay keep others s nodes p own good is limits = record {
  valid = stay s nodes good.valid (good.free s.axis (omega (arith, own))) is;
  numbered = (keep s nodes good.numbered is limits).numbered;
  free = λ axis later.
      others s nodes axis (λ here. let e : split_at axis ≡ p = ap split_at here ∙ own in omega (arith, later, e))
      (good.free axis (omega (arith, later)));
}

chosen_within : (v : Variation) (ws : List Variation) (index : ℕ) → chosen v ws ≡ Some index → index < length ws
chosen_within v [] index is = absurd (cc)
chosen_within v (w ∷ ws) index is = by (position (same v) (w ∷ ws)) refl
  where
    by : (o : Option ℕ) → position (same v) (w ∷ ws) ≡ o → index < length (w ∷ ws)
    by None found =
        let t : Some 0 ≡ Some index = ap (λ o. Some (unwrap_or o 0)) (sym found) ∙ is in
        let z : 0 ≡ index = cc in omega (arith, z)
    by (Some i) found =
        let t : Some i ≡ Some index = ap (λ o. Some (unwrap_or o 0)) (sym found) ∙ is in
        let z : i ≡ index = cc in
        let within = (position-Some (same v) (w ∷ ws) i w found).0 in omega (arith, z, within)

chosen_none : (v : Variation) (ws : List Variation) → chosen v ws ≡ None → length ws ≡ 0
chosen_none v [] is = refl
chosen_none v (w ∷ ws) is = absurd (cc)

differ_all : (outs : List (Split Props)) → AllByRecursion (λ (made : Split Props). VariantsDiffer made.variants) outs
    → AllByRecursion VariantsDiffer (variants_of outs)
differ_all [] h = tt
differ_all (made ∷ outs) h = (h.0, differ_all outs h.1)

module _ (axis : Axis) (nodes : List (Node Props)) (outs : List (Split Props)) where
  abbrev theirs : ℕ → List (Variation × Props)
  theirs n = slice_index_or (variants_of outs) n []

  -- how the results of a rule split a graph
  splits_so : length outs ≡ length nodes
      → AllByRecursion (λ (made : Split Props). VariantsDiffer made.variants) outs
      → IsSplitting (splitting (rule_along axis) (variants_of outs)) nodes
  splits_so many differ = record {
    many = length-map outs (λ (made : Split Props). made.variants) ∙ many;
    differ = differ_all outs differ;
    within = λ n v e index is.
        let within = chosen_within v (map (λ (b : Variation × Props). b.0) (theirs e.to.0)) index is in
        let same_length = length-map (theirs e.to.0) (λ (b : Variation × Props). b.0) in
        omega (arith, within, same_length);
    led = λ n lt. all_each
        (λ (b : Variation × Props). AllByRecursion
        (λ (e : Edge). chosen b.0 (map (λ (c : Variation × Props). c.0) (theirs e.to.0)) ≡ None
        → length (theirs e.to.0) ≡ 0)
        (edges_at nodes n))
        (λ b. all_each
        (λ (e : Edge). chosen b.0 (map (λ (c : Variation × Props). c.0) (theirs e.to.0)) ≡ None
        → length (theirs e.to.0) ≡ 0)
        (λ e none. sym (length-map (theirs e.to.0) (λ (c : Variation × Props). c.0))
        ∙ chosen_none b.0 (map (λ (c : Variation × Props). c.0) (theirs e.to.0)) none) (edges_at nodes n))
        (theirs n);
  }

-- The variants of the results differ

none_past : {X : Type 0} (xs : List X) (n : ℕ) → length xs ≤ n → slice_get xs n ≡ None
none_past [] n le = refl
none_past (x ∷ xs) zero le = absurd (omega (arith, le))
none_past (x ∷ xs) (suc n) le = none_past xs n (omega (arith, le))

one_differs : (b : Variation × Props) → VariantsDiffer (b ∷ [])
one_differs b i j d ij jl = absurd (omega (arith, ij, jl))

answers_differ : (variants : Module → Node Props → List (Variation × Props)) (mods : List Module)
    (nodes : List (Node Props)) → VariationsDiffer (splits variants mods) nodes → (n : ℕ) (ins : List (Split Props))
    → IfResult (λ (made : Split Props). VariantsDiffer made.variants) (splits variants mods nodes n ins)
answers_differ variants mods nodes differ n ins =
    ⊎_elim (λ lt. by lt (splits variants mods nodes n ins) refl)
    (λ ge. subst (λ o. IfResult (λ (made : Split Props). VariantsDiffer made.variants)
    (option_map_or
    (λ (x : Node Props). at_module (λ m. Ok (record { variants = variants m x; requests = [] })) mods x.«module».0) o
    (Ok empty_result)))
    (sym (none_past nodes n ge)) (one_differs _))
    (cases_lt n (length nodes))
  where
    by : n < length nodes → (r : Result (Split Props) Fault) → splits variants mods nodes n ins ≡ r
        → IfResult (λ (made : Split Props). VariantsDiffer made.variants) r
    by lt (Ok made) is = differ n ins made lt is
    by lt (Err fault) is = tt

-- The nodes that ask are nodes

asks_from : (count n : ℕ) → n < count → (rs : List Request)
    → AskInside count (map (λ r. (record { 0 = n }, r)) rs)
asks_from count n below [] = tt
asks_from count n below (r ∷ rs) = (below, asks_from count n below rs)

all_asked : (count k : ℕ) (outs : List (Split Props)) → k + length outs ≤ count
    → AskInside count (by_number (λ n (made : Split Props). map (λ r. (record { 0 = n }, r)) made.requests) k outs)
all_asked count k [] few = tt
all_asked count k (out ∷ outs) few =
    all_append (λ (a : NodeId × Request). a.0.0 < count) (map (λ r. (record { 0 = k }, r)) out.requests)
    (by_number (λ n (made : Split Props). map (λ r. (record { 0 = n }, r)) made.requests) (k + 1) outs)
    (asks_from count k (omega (arith, few)) out.requests) (all_asked count (k + 1) outs (omega (arith, few)))

length-renewed : (nodes : List (Node Props)) (ps : List Props) → length (with_payloads nodes ps) ≡ length nodes
length-renewed [] ps = refl
length-renewed (x ∷ xs) [] = refl
length-renewed (x ∷ xs) (p ∷ ps) = ap suc (length-renewed xs ps)

module _ (laws : LowerLaws) (mods : List Module) where
  renewed_good : (p : ℕ) (nodes : List (Node Props)) (ps : List Props) → IsGoodAt p nodes
      → IsGoodAt (suc p) (with_payloads nodes ps)
  renewed_good p nodes ps good = record {
    valid = laws.renewed_valid nodes ps good.valid;
    numbered = (laws.renewed_numbered nodes ps good.numbered).numbered;
    free = λ axis later. laws.renewed_free nodes ps axis (good.free axis (omega (arith, later)));
  }

  -- a rule without an axis
  unsplit_good : (p : ℕ) (answer : Answer) (nodes : List (Node Props)) → IsGoodAt p nodes
      → (new : List (Node Props) × List (NodeId × Request)) → BottomUpMeans answer nodes None (Made new)
      → IsGoodAt (suc p) new.0 × AskInside (length new.0) new.1
  unsplit_good p answer nodes good new (outs, made, results) =
      let count : length outs ≡ length nodes = laws.many (answer nodes) (plan_of BottomUp nodes) outs made in
      let size : length new.0 ≡ length nodes =
      ap length results.1 ∙ length-renewed nodes (first_payloads nodes outs) in (
        subst (IsGoodAt (suc p)) (sym results.1) (renewed_good p nodes (first_payloads nodes outs) good),
        subst (AskInside (length new.0)) (sym results.2)
            (all_asked (length new.0) 0 outs (omega (arith, count, size))),
      )

  followed_good : (p : ℕ) (old new : List (Node Props)) → IsGoodAt p old → Follows old new → IsGoodAt p new
  followed_good p old new good follows = record {
    valid = follows.valid;
    numbered = follows.numbered;
    free = λ axis later. follows.free axis (good.free axis later);
  }

  asked_good : (p : ℕ) (answer : Answer) (nodes : List (Node Props)) → IsGoodAt p nodes → (new : List (Node Props))
      → AskMeans mods answer nodes (Ok new) → IsGoodAt (suc p) new
  asked_good p answer nodes good new means =
      then_came (ComesTo mods (BottomUpMeans answer nodes None)) (λ made. ApplyMeans mods made.0 made.1)
      (IsGoodAt (suc p))
      (λ made comes g applied.
      let both = came mods (BottomUpMeans answer nodes None)
      (λ g. IsGoodAt (suc p) g.0 × AskInside (length g.0) g.1)
      (λ g. unsplit_good p answer nodes good g) made comes in
      followed_good (suc p) made.0 g both.0
      (applied_follows mods made.0 made.1 both.0.valid both.0.numbered both.1 g applied))
      new means

  made_good : (p : ℕ) (answer : Answer) (nodes : List (Node Props)) → IsGoodAt p nodes → (new : List (Node Props))
      → MakeMeans mods None answer nodes (Ok new) → IsGoodAt (suc p) new
  made_good p answer nodes good new means =
      then_came (ComesTo mods (BottomUpMeans answer nodes None)) (λ made outcome. Ok made.0 ≡ outcome)
      (IsGoodAt (suc p))
      (λ made comes g is. let same : made.0 ≡ g = cc in
      subst (IsGoodAt (suc p)) same (came mods (BottomUpMeans answer nodes None) (λ g. IsGoodAt (suc p) g.0)
      (λ g h. (unsplit_good p answer nodes good g h).0) made comes))
      new means

  along_good : (p : ℕ) (axis : Axis) → split_at axis ≡ p → (variants : Module → Node Props → List (Variation × Props))
      (nodes : List (Node Props)) → VariationsDiffer (splits variants mods) nodes → IsGoodAt p nodes
      → (new : List (Node Props) × List (NodeId × Request))
      → BottomUpMeans (splits variants mods) nodes (Some axis) (Made new) → IsGoodAt (suc p) new.0
  along_good p axis own variants nodes differ good new (outs, made, results) =
      let count : length outs ≡ length nodes =
      laws.many (splits variants mods nodes) (plan_of BottomUp nodes) outs made in
      subst (IsGoodAt (suc p)) (sym results.1)
      (split_good laws.splits_valid laws.splits_numbered laws.splits_free
      (splitting (rule_along axis) (variants_of outs)) nodes p own good
      (splits_so axis nodes outs count
      (outs_have (λ (made : Split Props). VariantsDiffer made.variants) (splits variants mods nodes)
      (λ n ins h. answers_differ variants mods nodes differ n ins) (plan_of BottomUp nodes) outs made))
      results.0)

  splits_good : (p : ℕ) (axis : Axis) → split_at axis ≡ p
      → (variants : Module → Node Props → List (Variation × Props)) (nodes : List (Node Props))
      → VariationsDiffer (splits variants mods) nodes → IsGoodAt p nodes → (new : List (Node Props))
      → MakeMeans mods (Some axis) (splits variants mods) nodes (Ok new) → IsGoodAt (suc p) new
  splits_good p axis own variants nodes differ good new means =
      then_came (ComesTo mods (BottomUpMeans (splits variants mods) nodes (Some axis)))
      (λ made outcome. Ok made.0 ≡ outcome) (IsGoodAt (suc p))
      (λ made comes g is. let same : made.0 ≡ g = cc in
      subst (IsGoodAt (suc p)) same (came mods (BottomUpMeans (splits variants mods) nodes (Some axis))
      (λ g. IsGoodAt (suc p) g.0) (λ g. along_good p axis own variants nodes differ good g) made comes))
      new means

  wants_good : (p : ℕ) → split_at A.Sanitize ≡ p → (nodes : List (Node Props)) → IsGoodAt p nodes
      → (new : List (Node Props)) → WantsMean sanitize_meant nodes (Made new) → IsGoodAt (suc p) new
  wants_good p own nodes good new (lists, are, limits, is) =
      subst (IsGoodAt (suc p)) (sym is)
      (split_good laws.wants_valid laws.wants_numbered laws.wants_free
      (splitting (wanted_variants sanitize_meant nodes) lists) nodes p own good
      (laws.wants_split sanitize_meant nodes lists good.numbered good.valid (laws.own_differ nodes) are) limits)

  mutate_good : (p : ℕ) (nodes : List (Node Props)) → IsGoodAt p nodes → (new : List (Node Props))
      → MutateMeans sanitize_meant nodes (Made new) → IsGoodAt (suc p) new
  mutate_good p nodes good new (outs, are, is) =
      subst (IsGoodAt (suc p)) (sym is) (renewed_good p nodes outs good)

  levels_good : (p : ℕ) (nodes : List (Node Props)) → IsGoodAt p nodes → (new : List (Node Props))
      → TopDownMeans level_meant nodes (Made new) → IsGoodAt (suc p) new
  levels_good p nodes good new (outs, are, is) =
      subst (IsGoodAt (suc p)) (sym is) (renewed_good p nodes outs good)

  module _ (c : Config) (targets : TargetsDiffer c) where
    step_good : (p : ℕ) (nodes : List (Node Props)) → IsGoodAt p nodes → (new : List (Node Props))
        → StepMeans mods c (pass_at p) nodes (Ok new) → IsGoodAt (suc p) new
    step_good zero nodes good new means = asked_good 0 (asks defaults_asked mods) nodes good new means
    step_good (suc zero) nodes good new means = made_good 1 (renews defaults_merged mods) nodes good new means
    step_good (suc (suc zero)) nodes good new means =
        splits_good 2 A.Target refl (arch_variants c) nodes (laws.targets c mods nodes targets) good new means
    step_good (suc (suc (suc zero))) nodes good new means =
        splits_good 3 A.Image refl image_variants nodes (laws.images mods nodes) good new means
    step_good (suc (suc (suc (suc zero)))) nodes good new means =
        splits_good 4 A.Link refl link_variants nodes (laws.links mods nodes) good new means
    step_good (suc (suc (suc (suc (suc zero))))) nodes good new means =
        asked_good 5 (asks deps_asked mods) nodes good new means
    step_good (suc (suc (suc (suc (suc (suc zero)))))) nodes good new means =
        asked_good 6 (asks (plugins_asked mods) mods) nodes good new means
    step_good (suc (suc (suc (suc (suc (suc (suc zero))))))) nodes good new means =
        splits_good 7 A.PerSource refl source_variants nodes (laws.sources mods nodes) good new means
    step_good (suc (suc (suc (suc (suc (suc (suc (suc zero)))))))) nodes good new means =
        came mods (WantsMean sanitize_meant nodes) (IsGoodAt 9) (wants_good 8 refl nodes good) new means
    step_good (suc (suc (suc (suc (suc (suc (suc (suc (suc zero))))))))) nodes good new means =
        came mods (MutateMeans sanitize_meant nodes) (IsGoodAt 10) (mutate_good 9 nodes good) new means
    step_good (suc (suc (suc (suc (suc (suc (suc (suc (suc (suc zero)))))))))) nodes good new means =
        came mods (TopDownMeans level_meant nodes) (IsGoodAt 11) (levels_good 10 nodes good) new means
    step_good (suc (suc (suc (suc (suc (suc (suc (suc (suc (suc (suc p))))))))))) nodes good new means =
        made_good (suc (suc (suc (suc (suc (suc (suc (suc (suc (suc (suc p))))))))))) (info_meant mods) nodes good new
        means

    -- the passes so far
    pub course_good : length mods ≤ MOST_MODULES → (p : ℕ) (nodes : List (Node Props)) → CourseMeans mods c p (Ok nodes)
        → IsGoodAt p nodes
    course_good few zero nodes is = let same : first_nodes mods ≡ nodes = cc in
        subst (IsGoodAt 0) same (started mods few)
    course_good few (suc p) nodes means =
        then_came (CourseMeans mods c p) (StepMeans mods c (pass_at p)) (IsGoodAt (suc p))
        (λ before came new step. step_good p before (course_good few p before came) new step) nodes means
