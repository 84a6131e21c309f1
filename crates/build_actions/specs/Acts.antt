-- What is done at a node, given what was made at its edges' targets.
use Rattle.std.specs.Prelude.{ℕ, List, [], ◌∷◌, ◌++◌, Some, None, Result, Ok, slice_get}
use Rattle.std.specs.Option.{option_map_or}
use Rattle.bp_faults.specs.declared.fault.Fault.{Fault}
use Rattle.bp_faults.specs.declared.place.Item.{Item}
use Rattle.bp_faults.specs.Answers.{then_do}
use Rattle.graph_nodes.specs.declared.graph.Edge.{Edge}
use Rattle.graph_nodes.specs.declared.graph.Node.{Node}
use Rattle.bp_props.specs.declared.module.Module.{Module}
use Rattle.bp_props.specs.declared.props.Props.{Props}
use Rattle.build_parts.specs.declared.path.Role.{Role}
use Rattle.build_parts.specs.declared.path.Role.TheVariants.{Makes, Gives, Neither}
use Rattle.build_parts.specs.Sources.{sources_checked}
use Rattle.build_parts.specs.Paths.{role_of, product_of, link_variation, output_directory, output_path}
use Rattle.build_actions.specs.declared.actions.Actions.{Actions}
use Rattle.ninja_file.specs.declared.file.Statement.{Statement}
use Rattle.build_actions.specs.declared.compile.Compiler.{Compiler}
use Rattle.build_actions.specs.Files.{results_of, files_of}
use Rattle.build_actions.specs.Compiles.{compiler_of, compile_steps, objects_in}
use Rattle.build_actions.specs.Products.{is_whole, objects_over, product_step}

-- Nothing is made, and these files are given.
abbrev pub files_alone : List Item → Actions
files_alone files = record { statements = []; objects = []; output = None; files = files }

-- The objects of a node: those of its own sources, and then those of its whole libraries, each once.
abbrev pub objects_of : List ℕ → Node Props → List Actions → List Item → List (List ℕ)
objects_of directory x ins files =
    objects_over (objects_in directory files) (results_of (λ (e : Edge). is_whole e.kind) x.edges ins)

module _ (ms : List Module) (nodes : List (Node Props)) where
  -- The sources are compiled, and the objects are put into the output.
  abbrev pub node_statements : Node Props → Compiler → List Item → List ℕ → List (List ℕ) → List Statement
  node_statements x compiler files output objects =
      compile_steps compiler files ++ product_step ms nodes x (product_of (link_variation x)) output objects ∷ []

  -- What is done at a node that makes something of some files.
  abbrev pub made_of : Module → Node Props → List Actions → List Item → Actions
  made_of m x ins files = record {
    statements =
        node_statements x (compiler_of m x files) files (output_path m x)
        (objects_of (output_directory m x) x ins files);
    objects = objects_of (output_directory m x) x ins files;
    output = Some (output_path m x);
    files = files;
  }

  -- What is done at a node by its role: files are given, or checked and compiled.
  abbrev pub acts_by : Role → Module → Node Props → List Actions → Result Actions Fault
  acts_by Neither m x ins = Ok (files_alone [])
  acts_by Gives m x ins = Ok (files_alone (files_of ms nodes x ins))
  acts_by Makes m x ins =
      then_do (sources_checked [] (files_of ms nodes x ins))
      (λ done. Ok (made_of m x ins (files_of ms nodes x ins)))

  -- What is done at a node of a module, by what the module is.
  abbrev pub acts : Module → Node Props → List Actions → Result Actions Fault
  acts m x ins = acts_by (role_of m.kind) m x ins

  -- What is done at node n. A number beyond the nodes, or a module beyond the modules, makes nothing.
  abbrev pub acts_at : ℕ → List Actions → Result Actions Fault
  acts_at n ins =
      option_map_or
      (λ (x : Node Props). option_map_or (λ m. acts m x ins) (slice_get ms x.module.0) (Ok (files_alone [])))
      (slice_get nodes n) (Ok (files_alone []))
