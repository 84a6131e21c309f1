-- Which node a request is for.
use Rattle.std.specs.Prelude.{ℕ, Bool, ◌&&◌, List, [], ◌∷◌, map, Option, Some, None, Result, Ok, Err, nat_eq}
use Rattle.std.specs.Prelude.{slice_get, slice_index_or, ok_or}
use Rattle.std.specs.Option.{option_and_then, option_map, option_map_or}
use Rattle.std.specs.List.{position_from}
use Rattle.bp_faults.specs.declared.fault.Fault.{Fault}
use Rattle.bp_faults.specs.declared.ids.NodeId.{NodeId}
use Rattle.bp_faults.specs.declared.kind.FaultKind.{FaultKind}
use Rattle.bp_faults.specs.declared.kind.FaultKind.TheVariants.{MissingModule, NotDefaults, BadSource, MissingVariant}
use Rattle.bp_faults.specs.Answers.{then_do}
use Rattle.bp_faults.specs.Faults.{fault_on}
use Rattle.bp_names.specs.Meaning.{first_number}
use Rattle.bp_props.specs.declared.kind.ModuleKind.{ModuleKind}
use Rattle.bp_props.specs.declared.kind.ModuleKind.TheVariants as M
use Rattle.bp_props.specs.declared.module.Module.{Module}
use Rattle.graph_nodes.specs.declared.graph.EdgeKind.{EdgeKind}
use Rattle.graph_nodes.specs.declared.graph.EdgeKind.TheVariants.{Defaults, Sources}
use Rattle.graph_nodes.specs.declared.graph.Node.{Node}
use Rattle.graph_nodes.specs.declared.variation.Variation.{Variation}
use Rattle.graph_nodes.specs.declared.variation.Variation.TheVariants.{Empty}
use Rattle.graph_nodes.specs.declared.variations.Axis.{Axis}
use Rattle.graph_nodes.specs.declared.variations.Axis.TheVariants.{Target, Image, Link}
use Rattle.graph_nodes.specs.Axes.{axis_index}
use Rattle.graph_nodes.specs.Names.{label_of}
use Rattle.mutator_rules.specs.declared.request.Request.{Request}
use Rattle.mutator_rules.specs.declared.request.Wanted.{Wanted}
use Rattle.graph_nodes.specs.Same.{same}

-- The names of modules, by number.
abbrev pub names_by_number : List Module → List (List ℕ)
names_by_number mods = map (λ (m : Module). m.name) mods

-- A name means the first module of that name.
abbrev pub module_named : List Module → List ℕ → Option ℕ
module_named mods name = first_number (names_by_number mods) name

-- An edge of kind Defaults leads to a `cc_defaults`, and one of kind Sources to a `filegroup`.
abbrev pub wrong_kind : EdgeKind → ModuleKind → Option FaultKind
wrong_kind Defaults M.Defaults = None
wrong_kind Defaults kind = Some NotDefaults
wrong_kind Sources M.Filegroup = None
wrong_kind Sources kind = Some BadSource
wrong_kind edge kind = None

-- A node has a variation along an axis.
abbrev pub has_variation : Axis → Variation → List Variation → Bool
has_variation axis variation vars = same variation (slice_index_or vars (axis_index axis) Empty)

-- It has the wanted target, image and link.
abbrev pub is_wanted : Wanted → List Variation → Bool
is_wanted want vars =
    has_variation Target want.target vars && (has_variation Image want.image vars && has_variation Link want.link vars)

-- It is of a module, and has them.
abbrev pub is_for : {P : Type 0} → ℕ → Wanted → Node P → Bool
is_for m want x = nat_eq x.«module».0 m && is_wanted want x.vars

-- The least such node (`laws::nodes_for_are_least`).
abbrev pub node_for : {P : Type 0} → List (Node P) → ℕ → Wanted → Option NodeId
node_for nodes m want = option_map (λ n. record { 0 = n }) (position_from (is_for m want) 0 nodes)

-- A fault of a request is at its item, and its subject is the name.
abbrev pub request_fault : FaultKind → Request → Fault
request_fault kind r = fault_on kind r.at r.name

-- The name has behind it the name of the wanted variant in braces, as a label has.
abbrev pub missing_variant : Request → Fault
missing_variant r =
    fault_on MissingVariant r.at
    (label_of r.name (r.want.target ∷ r.want.image ∷ r.want.link ∷ Empty ∷ Empty ∷ []))

-- A module, if it is of the kind that the edge leads to.
abbrev pub fitting : List Module → Request → ℕ → Result ℕ Fault
fitting mods r m =
    option_map_or (λ kind. Err (request_fault kind r))
    (option_and_then (λ (it : Module). wrong_kind r.kind it.kind) (slice_get mods m)) (Ok m)

-- The module of a request: it is there, and of that kind.
abbrev pub module_for : List Module → Request → Result ℕ Fault
module_for mods r = then_do (ok_or (module_named mods r.name) (request_fault MissingModule r)) (fitting mods r)

-- The node of a request: the least of the module that is wanted.
abbrev pub resolved_node : {P : Type 0} → List Module → List (Node P) → Request → Result NodeId Fault
resolved_node mods nodes r =
    then_do (module_for mods r) (λ m. ok_or (node_for nodes m r.want) (missing_variant r))
