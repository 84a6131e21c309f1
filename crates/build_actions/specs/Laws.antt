-- What holds of the file of every graph.
use Rattle.std.specs.Prelude.{◌≡◌, ◌≢◌, ◌<◌, ℕ, Bool, false, List, ◌==◌, map, length, Ok, slice_index_or}
use Rattle.std.specs.List.{AllPairs, AllByRecursion, list_any}
use Rattle.ninja_file.specs.Meaning.{AllDiffer, outs_of, IsWellFormed}
use Rattle.graph_nodes.specs.declared.graph.Node.{Node}
use Rattle.graph_nodes.specs.Nodes.{targets}
use Rattle.graph_nodes.specs.declared.variation.Variation.{Variation}
use Rattle.graph_nodes.specs.Names.{variant_name_of}
use Rattle.module_graph.specs.Planned.{plan_edges, plan_of}
use Rattle.module_graph.specs.declared.direction.Direction.TheVariants.{BottomUp}
use Rattle.serial_pass.specs.Plans.{IsPlan, HasNoCycle}
use Rattle.serial_pass.specs.Outcomes.{PassOutcomeMeans}
use Rattle.bp_props.specs.declared.module.Module.{Module}
use Rattle.bp_props.specs.declared.props.Props.{Props}
use Rattle.build_actions.specs.declared.actions.Actions.{Actions}
use Rattle.build_actions.specs.Variants.{AreOnAxes}
use Rattle.build_actions.specs.Acts.{acts_at}
use Rattle.build_actions.specs.File.{file_of_actions}
use Rattle.build_actions.specs.Writable.{AreWritable}

-- Whether a text holds `/`.
abbrev pub has_slash : List ℕ → Bool
has_slash text = list_any (λ b. b == 47) text

-- No two nodes of one module have equal variations.
abbrev pub AreDistinct : List (Node Props) → Type 0
AreDistinct nodes = AllPairs (λ (x y : Node Props). x.module ≡ y.module → x.vars ≡ y.vars → ⊥) nodes

-- Each node is told by two names that stand between slashes: that of its module, and that of its variant.
pub record AreTold (ms : List Module) (nodes : List (Node Props)) : Type 0 where
  pub names : AllByRecursion (λ (m : Module). has_slash m.name ≡ false) ms
  pub names_differ : AllPairs (λ (a b : Module). a.name ≢ b.name) ms
  pub on_axes : AllByRecursion (λ (x : Node Props). AreOnAxes x.vars) nodes
  pub distinct : AreDistinct nodes

-- What was made at the targets of a node's edges, in edge order.
abbrev pub made_below : List (Node Props) → List Actions → ℕ → Actions → List Actions
made_below nodes made n d = map (λ m. slice_index_or made m d) (targets nodes n)

-- What was made at the nodes, by node number: at each node what is done there, given what was made at its edges'
-- targets.
pub record AreMade (ms : List Module) (nodes : List (Node Props)) (made : List Actions) : Type 0 where
  pub many : length made ≡ length nodes
  pub each : (n : ℕ) (d : Actions) → n < length made
      → acts_at ms nodes n (made_below nodes made n d) ≡ Ok (slice_index_or made n d)

-- Variations that stand on their axes and are not the same have different names.
abbrev pub NamesTellVariations : Type 0
NamesTellVariations =
    (v w : List Variation) → AreOnAxes v → AreOnAxes w → variant_name_of v ≡ variant_name_of w → v ≡ w

-- A pass over a graph, from the bottom up, makes what is made at its nodes.
abbrev pub PassesMake : Type 0
PassesMake =
    (ms : List Module) (nodes : List (Node Props)) (outs : List Actions) → IsPlan (plan_of BottomUp nodes)
    → HasNoCycle (plan_edges BottomUp nodes)
    → PassOutcomeMeans (acts_at ms nodes) (plan_of BottomUp nodes) (Ok outs) → AreMade ms nodes outs

-- Where the nodes are told apart, no output is named twice.
abbrev pub NoOutputTwice : Type 0
NoOutputTwice =
    (ms : List Module) (nodes : List (Node Props)) (made : List Actions) → AreTold ms nodes
    → AreMade ms nodes made → AllDiffer (outs_of (file_of_actions made))

-- Where the nodes are told apart, no walk returns and the texts can be written, the file of a graph is well formed.
abbrev pub FilesAreWellFormed : Type 0
FilesAreWellFormed =
    (ms : List Module) (nodes : List (Node Props)) (made : List Actions) → IsPlan (plan_of BottomUp nodes)
    → HasNoCycle (plan_edges BottomUp nodes) → AreTold ms nodes → AreWritable ms nodes → AreMade ms nodes made
    → IsWellFormed (file_of_actions made)
