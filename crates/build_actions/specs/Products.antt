-- What a node makes of objects.
use Rattle.std.specs.Prelude.{ℕ, Bool, true, false, List, [], ◌∷◌, ◌++◌, Option, None, if◌then◌else◌, codes}
use Rattle.std.specs.List.{flat_map, filter_map}
use Rattle.bp_faults.specs.declared.ids.NodeId.{NodeId}
use Rattle.graph_nodes.specs.declared.graph.Edge.{Edge}
use Rattle.graph_nodes.specs.declared.graph.EdgeKind.{EdgeKind}
use Rattle.graph_nodes.specs.declared.graph.EdgeKind.TheVariants as E
use Rattle.graph_nodes.specs.declared.graph.Node.{Node}
use Rattle.bp_props.specs.declared.module.Module.{Module}
use Rattle.bp_props.specs.declared.props.Props.{Props}
use Rattle.ninja_file.specs.declared.file.Statement.{Statement}
use Rattle.build_parts.specs.declared.path.Product.{Product}
use Rattle.build_parts.specs.declared.path.Product.TheVariants.{Archive, SharedObject, Program}
use Rattle.build_parts.specs.Paths.{output_at}
use Rattle.build_parts.specs.Kept.{kept_first}
use Rattle.build_parts.specs.Variables.{link_variables}
use Rattle.build_actions.specs.declared.actions.Actions.{Actions}

-- An edge leads to a library that is taken whole.
abbrev pub is_whole : EdgeKind → Bool
is_whole E.Whole = true
is_whole kind = false

-- An edge leads to a program that must be there.
abbrev pub is_data : EdgeKind → Bool
is_data E.DataBin = true
is_data kind = false

-- Own objects, and then those of the whole libraries, each once.
abbrev pub objects_over : List (List ℕ) → List Actions → List (List ℕ)
objects_over own whole = kept_first (own ++ flat_map (λ (made : Actions). made.objects) whole)

-- The step that puts objects into an archive.
abbrev pub archive_step : List ℕ → List (List ℕ) → Statement
archive_step out objects =
    record { outs = out ∷ []; rule = codes "ar"; ins = objects; implicit = []; order_only = []; vars = [] }

module _ (ms : List Module) (nodes : List (Node Props)) where
  -- The outputs of some nodes, of those that have one.
  abbrev pub outputs_at : List NodeId → List (List ℕ)
  outputs_at numbers = filter_map (λ (n : NodeId). output_at ms nodes n.0) numbers

  -- The program that an edge leads to, where it does.
  abbrev pub data_output : Edge → Option (List ℕ)
  data_output e = if is_data e.kind then output_at ms nodes e.to.0 else None

  -- The programs that must be there beside the node, each once.
  abbrev pub data_outputs : List Edge → List (List ℕ)
  data_outputs edges = kept_first (filter_map data_output edges)

  -- What is linked: objects, and behind them the outputs of the link line and of the shared libraries.
  abbrev pub link_ins : Node Props → List (List ℕ) → List (List ℕ)
  link_ins x objects = objects ++ (outputs_at x.payload.line ++ outputs_at x.payload.slibs)

  -- A link step, which waits for the programs that must be there beside its output.
  abbrev pub link_step : Node Props → List ℕ → List ℕ → List (List ℕ) → Statement
  link_step x rule out objects = record {
    outs = out ∷ [];
    rule = rule;
    ins = link_ins x objects;
    implicit = [];
    order_only = data_outputs x.edges;
    vars = link_variables x;
  }

  -- The statement that makes a node's output of its objects.
  abbrev pub product_step : Node Props → Product → List ℕ → List (List ℕ) → Statement
  product_step x Archive out objects = archive_step out objects
  product_step x SharedObject out objects = link_step x (codes "solink") out objects
  product_step x Program out objects = link_step x (codes "link") out objects
