-- When a graph may be split, and what a call answers that splits it.
use Rattle.std.specs.Prelude.{◌≡◌, ◌≢◌, ◌<◌, ℕ, List, length, Some, None, Result, Ok, Err, ⊤}
use Rattle.std.specs.List.{AllByRecursion, AllPairs}
use Rattle.graph_nodes.specs.declared.graph.Edge.{Edge}
use Rattle.graph_nodes.specs.declared.graph.Graph.{Graph}
use Rattle.graph_nodes.specs.declared.graph.Node.{Node}
use Rattle.graph_nodes.specs.declared.variation.Variation.{Variation}
use Rattle.graph_nodes.specs.Nodes.{edges_at}
use Rattle.mutator_rules.specs.declared.error.KindError.{KindError}
use Rattle.mutator_rules.specs.declared.error.KindError.TheVariants.{At, Nodes, Edges, OutOfMemory}
use Rattle.variant_graphs.specs.Limits.{IsWithinLimits, IsFirstNodeBeyond, IsFirstEdgeBeyond}
use Rattle.variant_graphs.specs.Splitting.{Splitting, variants_at, split_nodes}

module _ {P B : Type 0} where
  -- There is a list of variants for each node, those of one node differ in their variations, an edge leads to a
  -- variant that its target has, and it is dropped only where its target has none.
  pub record IsSplitting (s : Splitting P B) (nodes : List (Node P)) : Type 0 where
    pub many : length s.variants ≡ length nodes
    pub differ : AllByRecursion (AllPairs (λ (b c : B). s.variation b ≢ s.variation c)) s.variants
    pub within : (n : ℕ) (v : Variation) (e : Edge) (index : ℕ) → s.lead n v e ≡ Some index
        → index < length (variants_at s e.to.0)
    pub led : (n : ℕ) → n < length nodes
        → AllByRecursion
        (λ b. AllByRecursion (λ (e : Edge). s.lead n (s.variation b) e ≡ None → length (variants_at s e.to.0) ≡ 0)
        (edges_at nodes n)) (variants_at s n)

-- A splitter may say where the edges lead of that many nodes, from each to each.
abbrev pub MayLead : (ℕ → Edge → Type 0) → ℕ → Type 0
MayLead may_lead count = (n : ℕ) (e : Edge) → n < count → e.to.0 < count → may_lead n e

module _ {P B : Type 0} (s : Splitting P B) where
  -- The graph of the variants, within the limits, or what is first beyond them.
  abbrev pub AnswersSplit : List (Node P) → Result (Graph P) KindError → Type 0
  AnswersSplit nodes (Ok made) = (made.nodes ≡ split_nodes s nodes) × IsWithinLimits (split_nodes s nodes)
  AnswersSplit nodes (Err (At n fault)) = ⊥
  AnswersSplit nodes (Err (Nodes m)) = IsFirstNodeBeyond (split_nodes s nodes) m
  AnswersSplit nodes (Err (Edges p)) = IsFirstEdgeBeyond (split_nodes s nodes) p
  AnswersSplit nodes (Err OutOfMemory) = ⊤
