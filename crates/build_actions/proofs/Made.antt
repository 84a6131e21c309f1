-- What is done at a node that makes something, from its parts.
use Rattle.std.proofs.Common.{◌≡◌, ◌++◌, ℕ, List, [], ◌∷◌, Some, ap, ◌∙◌}
use Rattle.bp_faults.specs.declared.place.Item.{Item}
use Rattle.graph_nodes.specs.declared.graph.Node.{Node}
use Rattle.bp_props.specs.declared.module.Module.{Module}
use Rattle.bp_props.specs.declared.props.Props.{Props}
use Rattle.ninja_file.specs.declared.file.Statement.{Statement}
use Rattle.build_parts.specs.Paths.{output_in, product_of, link_variation}
use Rattle.build_actions.specs.declared.actions.Actions.{Actions}
use Rattle.build_actions.specs.declared.compile.Compiler.{Compiler}
use Rattle.graph_nodes.specs.declared.graph.Edge.{Edge}
use Rattle.build_actions.specs.Files.{results_of}
use Rattle.build_actions.specs.Compiles.{compiler_of, compile_steps, outs_of_steps}
use Rattle.build_actions.specs.Products.{is_whole, objects_over, product_step}
use Rattle.build_actions.specs.Acts.{made_of}
use Rattle.build_actions.specs.Inside.{needed_compiler}
use Rattle.build_actions.proofs.Needed.{needed_steps}
use Rattle.build_actions.proofs.Outputs.{compiles_outs}

pub made_is : (ms : List Module) (nodes : List (Node Props)) (m : Module) (x : Node Props) (ins : List Actions)
    (files : List Item) (compiler : Compiler) (steps : List Statement) (objects : List (List ℕ)) (output : List ℕ)
    (product : Statement) (statements : List Statement)
    → compiler ≡ needed_compiler m x files → steps ≡ compile_steps compiler files
    → objects ≡ objects_over (outs_of_steps steps) (results_of (λ (e : Edge). is_whole e.kind) x.edges ins)
    → output ≡ output_in compiler.directory m x
    → product ≡ product_step ms nodes x (product_of (link_variation x)) output objects
    → statements ≡ steps ++ product ∷ []
    → record { statements = statements; objects = objects; output = Some output; files = files }
    ≡ made_of ms nodes m x ins files
made_is ms nodes m x ins files compiler steps objects output product statements compiler_is steps_are objects_are
    output_is product_is statements_are =
    let whole = results_of (λ (e : Edge). is_whole e.kind) x.edges ins in
    let all_steps =
    steps_are ∙ ap (λ (tool : Compiler). compile_steps tool files) compiler_is ∙ needed_steps m x files in
    let outs = ap outs_of_steps all_steps ∙ compiles_outs (compiler_of m x files) files in
    let own = objects_are ∙ ap (λ l. objects_over l whole) outs in
    let out = output_is ∙ ap (λ (tool : Compiler). output_in tool.directory m x) compiler_is in
    let last = product_is ∙ (λ k. product_step ms nodes x (product_of (link_variation x)) (out k) (own k)) in
    let all = statements_are ∙ (λ k. all_steps k ++ last k ∷ []) in
    λ k. record { statements = all k; objects = own k; output = Some (out k); files = files }
