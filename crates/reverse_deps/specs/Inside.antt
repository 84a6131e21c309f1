-- What is looked up of modules and nodes, and where edges are added. No public contract speaks of it.
use Rattle.std.specs.Prelude.{◌≡◌, ◌<◌, ℕ, Bool, false, List, [], ◌∷◌, cond, length, nat_eq, slice_get, slice_index_or}
use Rattle.std.specs.Option.{option_map_or}
use Rattle.std.specs.List.{AllByRecursion}
use Rattle.bp_faults.specs.declared.ids.NodeId.{NodeId}
use Rattle.bp_names.specs.Meaning.{NumbersFirst}
use Rattle.bp_props.specs.declared.module.Module.{Module}
use Rattle.graph_nodes.specs.declared.graph.Node.{Node}
use Rattle.graph_nodes.specs.Numbered.{by_number}
use Rattle.mutator_rules.specs.declared.request.Wanted.{Wanted}
use Rattle.reverse_deps.specs.Linked.{Link}
use Rattle.reverse_deps.specs.Resolved.{names_by_number, is_wanted}

-- The nodes that get edges are nodes.
abbrev pub AreHeld : ℕ → List Link → Type 0
AreHeld count ls = AllByRecursion (λ (l : Link). l.0.0 < count) ls

module _ {P : Type 0} where
  -- Node n alone where it is of module m, and else no node.
  abbrev pub if_of : ℕ → ℕ → Node P → List NodeId
  if_of m n x = cond (nat_eq x.«module».0 m) (record { 0 = n } ∷ []) []

  -- The nodes of a module, ascending.
  abbrev pub nodes_of : List (Node P) → ℕ → List NodeId
  nodes_of nodes m = by_number (if_of m) 0 nodes

  -- Each list has the nodes of the module of its number.
  abbrev pub ListsNodes : List (Node P) → ℕ → List (List NodeId) → Type 0
  ListsNodes nodes count lists = (m : ℕ) → m < count → slice_index_or lists m [] ≡ nodes_of nodes m

  -- Node n is there, and has the wanted target, image and link.
  abbrev pub is_wanted_at : List (Node P) → Wanted → NodeId → Bool
  is_wanted_at nodes want n = option_map_or (λ (x : Node P). is_wanted want x.vars) (slice_get nodes n.0) false

  -- A table has the first module of each name, and lists have the nodes of each module.
  pub record IsDirectory (mods : List Module) (nodes : List (Node P)) (names : List (List ℕ × ℕ))
      (lists : List (List NodeId)) : Type 0 where
    pub first : NumbersFirst (names_by_number mods) names
    pub many : length lists ≡ length mods
    pub each : ListsNodes nodes (length mods) lists
