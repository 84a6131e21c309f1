-- The first graph.
use Rattle.std.specs.Prelude.{ℕ, ◌+◌, List, [], ◌∷◌, replicate}
use Rattle.bp_props.specs.declared.module.Module.{Module}
use Rattle.bp_props.specs.declared.props.Props.{Props}
use Rattle.graph_nodes.specs.declared.graph.Node.{Node}
use Rattle.graph_nodes.specs.declared.variation.Variation.TheVariants.{Empty}

-- The node of a module before any mutator: it has the module's record, no variation and no edge.
abbrev pub first_node : ℕ → Module → Node Props
first_node number m =
    record { «module» = record { 0 = number }; vars = replicate 5 Empty; payload = m.props; edges = [] }

-- The nodes of modules that are numbered on.
abbrev pub first_from : ℕ → List Module → List (Node Props)
first_from number [] = []
first_from number (m ∷ ms) = first_node number m ∷ first_from (number + 1) ms

-- The first graph has one node for each module, in order.
abbrev pub first_nodes : List Module → List (Node Props)
first_nodes mods = first_from 0 mods
