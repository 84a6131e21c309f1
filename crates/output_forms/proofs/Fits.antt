-- The results of rules from the bottom up that keep the forms of a graph.
use Rattle.std.proofs.Common.{◌≤◌, ℕ, List, [], length, Option, Some, None, Result, Ok, refl}
use Rattle.std.specs.Prelude.{IsTrue, slice_get}
use Rattle.std.specs.Option.{option_map_or}
use Rattle.std.specs.List.{AllByRecursion}
use Rattle.bp_faults.specs.declared.fault.Fault.{Fault}
use Rattle.bp_faults.specs.declared.limits.TheConstants.{MOST_NODES}
use Rattle.bp_props.specs.declared.module.Module.{Module}
use Rattle.bp_props.specs.declared.props.Props.{Props}
use Rattle.build_actions.specs.Variants.{stands_on}
use Rattle.graph_nodes.specs.declared.graph.Node.{Node}
use Rattle.graph_nodes.specs.declared.variation.Variation.{Variation}
use Rattle.graph_nodes.specs.declared.variations.Axis.{Axis}
use Rattle.module_rules.specs.Results.{one_variant}
use Rattle.module_rules.specs.Rules.{asks, renews, splits}
use Rattle.module_rules.specs.Seen.{at_node, at_module, empty_result}
use Rattle.mutator_rules.specs.declared.request.Request.{Request}
use Rattle.mutator_rules.specs.declared.split.Split.{Split}
use Rattle.output_forms.specs.Forms.{HasSoundTexts}
use Rattle.output_forms.specs.Forms.{HasForm, HaveForms}
use Rattle.output_forms.proofs.Each.{IfThere, got}
use Rattle.output_forms.proofs.Outs.{IfResult}
use Rattle.output_forms.proofs.Records.{empty_sound}

-- A variant stands on an axis, and its record is sound.
abbrev pub IsOn : Axis → Variation × Props → Type 0
IsOn axis b = IsTrue (stands_on axis b.0) × HasSoundTexts b.1

-- Without an axis the records of a result are sound. With one its variants stand on the axis besides, where there are
-- no more than a graph may have.
abbrev pub IsFit : Option Axis → Split Props → Type 0
IsFit None made = AllByRecursion (λ (b : Variation × Props). HasSoundTexts b.1) made.variants
IsFit (Some axis) made = length made.variants ≤ MOST_NODES → AllByRecursion (IsOn axis) made.variants

-- A rule makes such results of a graph with forms.
abbrev pub Keeps : Option Axis → (List (Node Props) → ℕ → List (Split Props) → Result (Split Props) Fault) → Type 0
Keeps along answer =
    (nodes : List (Node Props)) → HaveForms nodes → (n : ℕ) (ins : List (Split Props))
    → AllByRecursion (IsFit along) ins → IfResult (IsFit along) (answer nodes n ins)

empty_fits : (along : Option Axis) → IsFit along empty_result
empty_fits None = (empty_sound, tt)
empty_fits (Some axis) = λ few. ((refl, empty_sound), tt)

module _ (along : Option Axis) (rule : Module → Node Props → List (Split Props) → Result (Split Props) Fault)
    (each : (m : Module) (x : Node Props) (ins : List (Split Props)) → HasForm x → AllByRecursion (IsFit along) ins
    → IfResult (IsFit along) (rule m x ins)) where
  with_module : (x : Node Props) (ins : List (Split Props)) → HasForm x → AllByRecursion (IsFit along) ins
      → (o : Option Module) → IfResult (IsFit along) (option_map_or (λ m. rule m x ins) o (Ok empty_result))
  with_module x ins form fit None = empty_fits along
  with_module x ins form fit (Some m) = each m x ins form fit

  with_node : (mods : List Module) (ins : List (Split Props)) → AllByRecursion (IsFit along) ins
      → (o : Option (Node Props)) → IfThere HasForm o
      → IfResult (IsFit along)
      (option_map_or (λ (x : Node Props). at_module (λ m. rule m x ins) mods x.«module».0) o (Ok empty_result))
  with_node mods ins fit None form = empty_fits along
  with_node mods ins fit (Some x) form = with_module x ins form fit (slice_get mods x.«module».0)

  -- what a rule makes of each node is fit, if what it makes of a node with a form is
  pub at_nodes : (mods : List Module) → Keeps along (at_node rule mods)
  at_nodes mods nodes forms n ins fit = with_node mods ins fit (slice_get nodes n) (got HasForm nodes n forms)

pub asks_keep : (asked : Module → Node Props → List Request) (mods : List Module) → Keeps None (asks asked mods)
asks_keep asked mods =
    at_nodes None (λ m x ins. Ok (one_variant x.payload (asked m x))) (λ m x ins form fit. (form.texts, tt)) mods

pub renews_keep : (record_of : Module → Node Props → List (Split Props) → Props)
    → ((m : Module) (x : Node Props) (ins : List (Split Props)) → HasForm x → AllByRecursion (IsFit None) ins
    → HasSoundTexts (record_of m x ins))
    → (mods : List Module) → Keeps None (renews record_of mods)
renews_keep record_of each mods =
    at_nodes None (λ m x ins. Ok (one_variant (record_of m x ins) []))
    (λ m x ins form fit. (each m x ins form fit, tt)) mods

pub splits_keep : (axis : Axis) (variants : Module → Node Props → List (Variation × Props))
    → ((m : Module) (x : Node Props) → HasForm x → length (variants m x) ≤ MOST_NODES
    → AllByRecursion (IsOn axis) (variants m x))
    → (mods : List Module) → Keeps (Some axis) (splits variants mods)
splits_keep axis variants each mods =
    at_nodes (Some axis) (λ m x ins. Ok (record { variants = variants m x; requests = [] }))
    (λ m x ins form fit few. each m x form few) mods
