-- When a rule may be asked.
use Rattle.std.specs.Prelude.{◌<◌, ℕ, List, length}
use Rattle.std.specs.List.{AllByRecursion}
use Rattle.graph_nodes.specs.declared.graph.Node.{Node}
use Rattle.module_graph.specs.Graphs.{IsNumbered}

module _ {P : Type 0} where
  -- A rule may be run over a graph whose nodes and edges are numbered, and where it accepts each node's module.
  pub record MayRun (accepts : ℕ → Type 0) (nodes : List (Node P)) : Type 0 where
    pub numbered : IsNumbered nodes
    pub accepted : AllByRecursion (λ (x : Node P). accepts x.«module».0) nodes

  -- It may be asked at each node of such a graph.
  pub record MayVisit (accepts : ℕ → Type 0) (nodes : List (Node P)) (n : ℕ) : Type 0 where
    pub may_run : MayRun accepts nodes
    pub inside : n < length nodes

-- A rule that reads the modules of a list accepts the indices in the list.
abbrev pub indices_in : ℕ → ℕ → Type 0
indices_in count m = m < count
