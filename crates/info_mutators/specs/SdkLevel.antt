-- `sdk`: the level of the SDK that a module is built for.
use Rattle.std.specs.Prelude.{ℕ, Bool, true, false, List, [], ◌∷◌, Option, Some, None, fold, min, map, Result, Ok}
use Rattle.std.specs.List.{filter, zip}
use Rattle.std.specs.Option.{unwrap_or}
use Rattle.bp_faults.specs.declared.fault.Fault.{Fault}
use Rattle.bp_props.specs.declared.given.Given.{Given}
use Rattle.bp_props.specs.declared.props.Props.{Props}
use Rattle.graph_nodes.specs.declared.graph.EdgeKind.{EdgeKind}
use Rattle.graph_nodes.specs.declared.graph.EdgeKind.TheVariants.{Whole, Static, Header}
use Rattle.graph_nodes.specs.declared.graph.Node.{Node}
use Rattle.module_rules.specs.Seen.{node_at}

-- A module that depends by such an edge is built together with what it depends on, and hands it its level.
abbrev pub is_level_handed : EdgeKind → Bool
is_level_handed Whole = true
is_level_handed Static = true
is_level_handed Header = true
is_level_handed kind = false

-- The least of some levels, where there is one.
abbrev pub least : List ℕ → Option ℕ
least [] = None
least (level ∷ levels) = Some (fold min level levels)

-- The lesser of a level and the least so far.
abbrev pub lesser : Option ℕ → ℕ → ℕ
lesser None level = level
lesser (Some least) level = min least level

-- The levels of the nodes that depend by such edges.
abbrev pub handed_levels : List EdgeKind → List Props → List ℕ
handed_levels kinds ins =
    map (λ (d : EdgeKind × Props). d.1.level) (filter (λ (d : EdgeKind × Props). is_level_handed d.0) (zip kinds ins))

-- The level that a module sets, else another.
abbrev pub own_level_or : ℕ → Option (Given ℕ) → ℕ
own_level_or level None = level
own_level_or level (Some given) = given.value

-- A record has the level that it sets, else the least that is handed to it, else 10,000.
abbrev pub with_level : Props → List EdgeKind → List Props → Props
with_level own kinds ins = record own {
  level = own_level_or (unwrap_or (least (handed_levels kinds ins)) 10000) own.min_sdk_version;
}

-- What a visit of node n answers, given the kinds of the edges that lead to it and the results of their nodes.
abbrev pub level_meant : List (Node Props) → ℕ → List EdgeKind → List Props → Result Props Fault
level_meant nodes n kinds ins = Ok (with_level (node_at nodes n).payload kinds ins)
