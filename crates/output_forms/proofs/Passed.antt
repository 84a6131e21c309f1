-- The graphs that each kind of mutator makes keep the forms of a graph, where its rule does.
use Rattle.std.proofs.Common.{◌≤◌, ℕ, List, [], ◌∷◌, map, length, Option, Some, None, Result, sym, ap, subst}
use Rattle.std.specs.Prelude.{IsTrue, slice_set}
use Rattle.std.specs.List.{AllByRecursion}
use Rattle.std.proofs.lemmas.List.{length-map}
use Rattle.bp_faults.specs.declared.fault.Fault.{Fault}
use Rattle.bp_faults.specs.declared.ids.NodeId.{NodeId}
use Rattle.bp_faults.specs.declared.limits.TheConstants.{MOST_NODES}
use Rattle.bp_faults.proofs.Lists.{all_image}
use Rattle.bp_props.specs.declared.props.Props.{Props}
use Rattle.build_actions.specs.Variants.{stands_on, AreOnAxes}
use Rattle.graph_nodes.specs.declared.graph.Node.{Node}
use Rattle.graph_nodes.specs.declared.variation.Variation.{Variation}
use Rattle.graph_nodes.specs.declared.variations.Axis.{Axis}
use Rattle.graph_nodes.specs.declared.variations.Axis.TheVariants.{Target, Image, Link, PerSource, Sanitize}
use Rattle.graph_nodes.specs.Axes.{axis_index}
use Rattle.module_graph.specs.declared.direction.Direction.TheVariants.{BottomUp}
use Rattle.module_graph.specs.Planned.{plan_of}
use Rattle.mutator_kinds.specs.BottomUp.{BottomUpMeans, rule_along, variants_of, first_payload, first_payloads}
use Rattle.mutator_kinds.specs.BottomUp.{new_nodes}
use Rattle.mutator_rules.specs.declared.request.Request.{Request}
use Rattle.mutator_rules.specs.declared.split.Split.{Split}
use Rattle.mutator_rules.specs.Outcomes.{Made}
use Rattle.variant_graphs.specs.Limits.{IsWithinLimits}
use Rattle.variant_graphs.specs.Payloads.{with_payloads}
use Rattle.variant_graphs.specs.Splitting.{Splitting, splitting, split_nodes, variants_at, variant_node}
use Rattle.output_forms.specs.Forms.{HasSoundTexts}
use Rattle.output_forms.specs.Forms.{HasForm, HaveForms}
use Rattle.output_forms.proofs.Each.{all_numbered, got_or}
use Rattle.output_forms.proofs.Fits.{IsOn, IsFit, Keeps}
use Rattle.output_forms.proofs.Outs.{outs_have}

-- nodes with other records that are sound
pub renewed : (nodes : List (Node Props)) (ps : List Props) → HaveForms nodes → AllByRecursion HasSoundTexts ps
    → HaveForms (with_payloads nodes ps)
renewed [] ps h k = tt
renewed (x ∷ xs) [] h k = h
renewed (x ∷ xs) (p ∷ ps) h k = (record { axes = h.0.axes; texts = k.0 }, renewed xs ps h.1 k.1)

first_sound : (old : Props) (variants : List (Variation × Props)) → HasSoundTexts old
    → AllByRecursion (λ (b : Variation × Props). HasSoundTexts b.1) variants
    → HasSoundTexts (first_payload old variants)
first_sound old [] h k = h
first_sound old (b ∷ bs) h k = k.0

firsts_sound : (nodes : List (Node Props)) (outs : List (Split Props)) → HaveForms nodes
    → AllByRecursion (IsFit None) outs → AllByRecursion HasSoundTexts (first_payloads nodes outs)
firsts_sound [] outs h k = tt
firsts_sound (x ∷ xs) [] h k = tt
firsts_sound (x ∷ xs) (made ∷ outs) h k =
    (first_sound x.payload made.variants h.0.texts k.0, firsts_sound xs outs h.1 k.1)

-- a variation is put on its axis
set_on : (axis : Axis) (vars : List Variation) (v : Variation) → AreOnAxes vars → IsTrue (stands_on axis v)
    → AreOnAxes (slice_set vars (axis_index axis) v)
set_on Target vars v h on = record {
  target = v;
  image = h.image;
  link = h.link;
  source = h.source;
  sanitize = h.sanitize;
  are = ap (λ l. slice_set l 0 v) h.are;
  on_target = on;
  on_image = h.on_image;
  on_link = h.on_link;
  on_source = h.on_source;
  on_sanitize = h.on_sanitize;
}
set_on Image vars v h on = record {
  target = h.target;
  image = v;
  link = h.link;
  source = h.source;
  sanitize = h.sanitize;
  are = ap (λ l. slice_set l 1 v) h.are;
  on_target = h.on_target;
  on_image = on;
  on_link = h.on_link;
  on_source = h.on_source;
  on_sanitize = h.on_sanitize;
}
set_on Link vars v h on = record {
  target = h.target;
  image = h.image;
  link = v;
  source = h.source;
  sanitize = h.sanitize;
  are = ap (λ l. slice_set l 2 v) h.are;
  on_target = h.on_target;
  on_image = h.on_image;
  on_link = on;
  on_source = h.on_source;
  on_sanitize = h.on_sanitize;
}
set_on PerSource vars v h on = record {
  target = h.target;
  image = h.image;
  link = h.link;
  source = v;
  sanitize = h.sanitize;
  are = ap (λ l. slice_set l 3 v) h.are;
  on_target = h.on_target;
  on_image = h.on_image;
  on_link = h.on_link;
  on_source = on;
  on_sanitize = h.on_sanitize;
}
set_on Sanitize vars v h on = record {
  target = h.target;
  image = h.image;
  link = h.link;
  source = h.source;
  sanitize = v;
  are = ap (λ l. slice_set l 4 v) h.are;
  on_target = h.on_target;
  on_image = h.on_image;
  on_link = h.on_link;
  on_source = h.on_source;
  on_sanitize = on;
}

-- The variants of a splitting stand on its axis, and have sound records at a node with a form.
pub record IsFitSplit {B : Type 0} (s : Splitting Props B) (Good : B → Type 0) : Type 0 where
  pub stands : (b : B) → Good b → IsTrue (stands_on s.axis (s.variation b))
  pub sound : (x : Node Props) (b : B) → HasForm x → Good b → HasSoundTexts (s.payload x b)
  pub lists : AllByRecursion (λ bs. length bs ≤ MOST_NODES → AllByRecursion Good bs) s.variants

-- the graph of the variants keeps the forms
pub split_kept : {B : Type 0} (s : Splitting Props B) (Good : B → Type 0) → IsFitSplit s Good
    → (nodes : List (Node Props)) → HaveForms nodes → IsWithinLimits (split_nodes s nodes)
    → HaveForms (split_nodes s nodes)
split_kept {B} s Good fit nodes forms limits =
    all_numbered (λ n x. map (variant_node s n x) (variants_at s n)) HasForm HasForm MOST_NODES
    (λ n x form few. all_image Good HasForm (variant_node s n x)
    (λ b good. record {
      axes = set_on s.axis x.vars (s.variation b) form.axes (fit.stands b good);
      texts = fit.sound x b form good;
    })
    (variants_at s n)
    (got_or (λ bs. length bs ≤ MOST_NODES → AllByRecursion Good bs) s.variants n [] fit.lists (λ less. tt)
    (subst (λ l. l ≤ MOST_NODES) (length-map (variants_at s n) (variant_node s n x)) few)))
    0 nodes forms limits.few_nodes

lists_fit : (axis : Axis) (outs : List (Split Props)) → AllByRecursion (IsFit (Some axis)) outs
    → AllByRecursion (λ bs. length bs ≤ MOST_NODES → AllByRecursion (IsOn axis) bs) (variants_of outs)
lists_fit axis outs h =
    all_image (IsFit (Some axis)) (λ bs. length bs ≤ MOST_NODES → AllByRecursion (IsOn axis) bs)
    (λ (made : Split Props). made.variants) (λ made fit. fit) outs h

new_kept : (along : Option Axis) (nodes : List (Node Props)) (outs : List (Split Props)) → HaveForms nodes
    → AllByRecursion (IsFit along) outs → IsWithinLimits (new_nodes along nodes outs)
    → HaveForms (new_nodes along nodes outs)
new_kept None nodes outs forms fit limits =
    renewed nodes (first_payloads nodes outs) forms (firsts_sound nodes outs forms fit)
new_kept (Some axis) nodes outs forms fit limits =
    split_kept (splitting (rule_along axis) (variants_of outs)) (IsOn axis)
    (record { stands = λ b good. good.0; sound = λ x b form good. good.1; lists = lists_fit axis outs fit })
    nodes forms limits

-- a rule from the bottom up
pub upward_kept : (along : Option Axis)
    (answer : List (Node Props) → ℕ → List (Split Props) → Result (Split Props) Fault) → Keeps along answer
    → (nodes : List (Node Props)) → HaveForms nodes → (new : List (Node Props) × List (NodeId × Request))
    → BottomUpMeans answer nodes along (Made new) → HaveForms new.0
upward_kept along answer keeps nodes forms new (outs, splits, results) =
    subst HaveForms (sym results.1)
    (new_kept along nodes outs forms
    (outs_have (IsFit along) (answer nodes) (keeps nodes forms) (plan_of BottomUp nodes) outs splits) results.0)
