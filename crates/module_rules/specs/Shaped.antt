-- The shape of what rules answer, as the ghost item `shaped` of an implementation wants it.
use Rattle.std.specs.Prelude.{ℕ, List, Option, Some, None, Result, Ok, Err, ⊤, slice_get}
use Rattle.std.specs.Option.{option_map_or}
use Rattle.std.proofs.Common.{refl, subst}
use Rattle.bp_faults.specs.declared.fault.Fault.{Fault}
use Rattle.bp_props.specs.declared.module.Module.{Module}
use Rattle.bp_props.specs.declared.props.Props.{Props}
use Rattle.graph_nodes.specs.declared.graph.Node.{Node}
use Rattle.graph_nodes.specs.declared.variation.Variation.{Variation}
use Rattle.graph_nodes.specs.declared.variations.Axis.{Axis}
use Rattle.mutator_rules.specs.declared.request.Request.{Request}
use Rattle.mutator_rules.specs.declared.split.Split.{Split}
use Rattle.mutator_rules.specs.Shapes.{HasShape, AreShaped}
use Rattle.module_rules.specs.Seen.{at_module, at_node, empty_result}
use Rattle.module_rules.specs.Rules.{asks, renews, splits}

-- An answer has a shape, if it is a result.
abbrev pub AnswerHasShape : Option Axis → Result (Split Props) Fault → Type 0
AnswerHasShape axis (Ok made) = HasShape axis made
AnswerHasShape axis (Err fault) = ⊤

-- What holds of each value of a function, and of the value in its stead, holds of what it makes of an option.
pub of_option : {X A : Type 0} (Holds : A → Type 0) (f : X → A) (other : A) (o : Option X)
    → ((x : X) → Holds (f x)) → Holds other → Holds (option_map_or f o other)
of_option Holds f other None each rest = rest
of_option Holds f other (Some x) each rest = each x

-- Where each answer of a rule has a shape, and the empty result has it, so has what the rule answers at any node.
pub answer_shaped : (axis : Option Axis) (rule : Module → Node Props → List (Split Props) → Result (Split Props) Fault)
    → HasShape axis empty_result
    → ((m : Module) (x : Node Props) (ins : List (Split Props)) → AnswerHasShape axis (rule m x ins))
    → (mods : List Module) (nodes : List (Node Props)) (n : ℕ) (ins : List (Split Props))
    → AnswerHasShape axis (at_node rule mods nodes n ins)
answer_shaped axis rule none each mods nodes n ins =
    of_option {X = Node Props} (AnswerHasShape axis) (λ x. at_module (λ m. rule m x ins) mods x.«module».0)
    (Ok empty_result) (slice_get nodes n)
    (λ x. of_option {X = Module} (AnswerHasShape axis) (λ m. rule m x ins)
    (Ok empty_result) (slice_get mods x.«module».0) (λ m. each m x ins) none)
    none

-- Then the results of the rule are shaped.
pub shaped_at : (axis : Option Axis) (rule : Module → Node Props → List (Split Props) → Result (Split Props) Fault)
    → HasShape axis empty_result
    → ((m : Module) (x : Node Props) (ins : List (Split Props)) → AnswerHasShape axis (rule m x ins))
    → (mods : List Module) → AreShaped axis (at_node rule mods)
shaped_at axis rule none each mods nodes n ins made is =
    subst (AnswerHasShape axis) is (answer_shaped axis rule none each mods nodes n ins)

-- A rule that asks makes one variant.
pub asks_shaped : (asked : Module → Node Props → List Request) (mods : List Module) → AreShaped None (asks asked mods)
asks_shaped asked = shaped_at None _ refl (λ m x ins. refl)

-- A rule that makes a new record makes one variant.
pub renews_shaped : (record_of : Module → Node Props → List (Split Props) → Props) (mods : List Module)
    → AreShaped None (renews record_of mods)
renews_shaped record_of = shaped_at None _ refl (λ m x ins. refl)

-- A rule that splits asks nothing.
pub splits_shaped : (axis : Axis) (variants : Module → Node Props → List (Variation × Props)) (mods : List Module)
    → AreShaped (Some axis) (splits variants mods)
splits_shaped axis variants = shaped_at (Some axis) _ refl (λ m x ins. refl)
