-- Rules that leave every node of a graph as it is.
use Rattle.std.proofs.Common.{◌≡◌, ◌∙◌, ◌<◌, ap, subst, length, ℕ, zero, suc, List, [], ◌∷◌, Option, Some, Result, Ok}
use Rattle.std.specs.Prelude.{slice_get}
use Rattle.std.specs.List.{AllByRecursion}
use Rattle.std.specs.Option.{option_map_or}
use Rattle.bp_faults.specs.declared.fault.Fault.{Fault}
use Rattle.bp_faults.proofs.Lists.{some_there}
use Rattle.bp_props.specs.declared.module.Module.{Module}
use Rattle.bp_props.specs.declared.props.Props.{Props}
use Rattle.graph_nodes.specs.declared.graph.Node.{Node}
use Rattle.mutator_rules.specs.declared.split.Split.{Split}
use Rattle.mutator_rules.specs.Conditions.{MayRun, indices_in}
use Rattle.mutator_rules.specs.Idle.{LeavesAll, left_alone}
use Rattle.module_rules.specs.Idle.{LeavesNode}
use Rattle.module_rules.specs.Seen.{at_module, at_node, empty_result}

same_item : {X : Type 0} (x y : X) → Some x ≡ Some y → x ≡ y
same_item x y e = cc

all_got : {X : Type 0} (Holds : X → Type 0) (xs : List X) (n : ℕ) (x : X) → slice_get xs n ≡ Some x
    → AllByRecursion Holds xs → Holds x
all_got Holds [] n x is all = cc
all_got Holds (y ∷ xs) zero x is all = subst Holds (same_item y x is) all.0
all_got Holds (y ∷ xs) (suc n) x is all = all_got Holds xs n x is all.1

module _ (rule : Module → Node Props → List (Split Props) → Result (Split Props) Fault) (mods : List Module) where
  abbrev answered : Split Props → Result (Split Props) Fault
  answered made = Ok made

  leaves_here : (x : Node Props) (ins : List (Split Props)) → x.«module».0 < length mods → LeavesNode rule x
      → at_module (λ m. rule m x ins) mods x.«module».0 ≡ answered (left_alone x)
  leaves_here x ins lt each =
      let m = some_there mods x.«module».0 lt in
      ap (λ (o : Option Module). option_map_or (λ m. rule m x ins) o (answered empty_result)) m.1 ∙ each m.0 ins

  pub leaves_all : (nodes : List (Node Props)) → MayRun (indices_in (length mods)) nodes
      → AllByRecursion (LeavesNode rule) nodes → LeavesAll (at_node rule mods) nodes
  leaves_all nodes may each n ins x is =
      ap (λ (o : Option (Node Props)). option_map_or
      (λ (y : Node Props). at_module (λ m. rule m y ins) mods y.«module».0) o (answered empty_result)) is
      ∙ leaves_here x ins
      (all_got (λ (y : Node Props). indices_in (length mods) y.«module».0) nodes n x is may.accepted)
      (all_got (LeavesNode rule) nodes n x is each)
