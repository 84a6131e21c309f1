-- The limits of a split by the numbers of variants alone, before any new node is made, and what is known of the new
-- numbers. No public contract speaks of it.
use Rattle.std.specs.Prelude.{◌≡◌, ◌≢◌, ◌≤◌, ◌<◌, ◌+◌, ◌++◌, Bool, ℕ, zero, suc, List, [], length, map, take, nat_lt}
use Rattle.std.specs.Prelude.{Option, Some, None, slice_get, slice_index_or, slice_range, slice_set}
use Rattle.std.specs.Prelude.{Vec, Result, Ok, Err, ⊤}
use Rattle.std.specs.Global.{Global}
use Rattle.std.specs.Option.{option_map}
use Rattle.std.specs.List.{AllByRecursion, AllPairs, filter, filter_map, flat_map, range_with_len, sum_by}
use Rattle.bp_faults.specs.declared.limits.TheConstants.{MOST_EDGES, MOST_NODES}
use Rattle.bp_faults.specs.declared.place.Place.{Place}
use Rattle.graph_nodes.specs.declared.graph.Edge.{Edge}
use Rattle.graph_nodes.specs.declared.graph.Node.{Node}
use Rattle.graph_nodes.specs.declared.variation.Variation.{Variation}
use Rattle.graph_nodes.specs.Axes.{axis_index}
use Rattle.graph_nodes.specs.Numbered.{by_number}
use Rattle.mutator_rules.specs.declared.error.KindError.{KindError}
use Rattle.mutator_rules.specs.declared.error.KindError.TheVariants.{At, Nodes, Edges, OutOfMemory}
use Rattle.variant_graphs.specs.declared.numbering.Numbering.{Numbering}
use Rattle.variant_graphs.specs.Splitting.{SplitRule, Splitting, variants_at}

-- The sum of some numbers.
abbrev pub total : List ℕ → ℕ
total counts = sum_by (λ k. k) counts

-- How many variants the nodes before n have.
abbrev pub before : List ℕ → ℕ → ℕ
before counts n = total (take n counts)

-- Where the variants of each node begin, and where those of the last end.
abbrev pub begins : List ℕ → List ℕ
begins counts = map (before counts) (range_with_len 0 (length counts + 1))

-- A list k times over.
abbrev pub copies_of : {A : Type 0} → ℕ → List A → List A
copies_of zero xs = []
copies_of (suc k) xs = xs ++ copies_of k xs

-- An edge is kept where its target has a variant.
abbrev pub is_kept : List ℕ → Edge → Bool
is_kept counts e = nat_lt 0 (slice_index_or counts e.to.0 0)

-- The places of a node's edges that are kept.
abbrev pub kept_places : List ℕ → List Edge → List Place
kept_places counts es = map (λ (e : Edge). e.at) (filter (is_kept counts) es)

module _ {P : Type 0} where
  -- The places of the edges of all variants, in node order.
  abbrev pub new_places : List ℕ → List (Node P) → List Place
  new_places counts nodes =
      by_number (λ n (x : Node P). copies_of (slice_index_or counts n 0) (kept_places counts x.edges)) 0 nodes

  -- Where the variants of each node begin, or the module of the node whose variants pass the limit.
  abbrev pub AnswersBegins : List ℕ → List (Node P) → Result (Vec ℕ Global) KindError → Type 0
  AnswersBegins counts nodes (Ok made) = (made.items ≡ begins counts) × (total counts ≤ MOST_NODES)
  AnswersBegins counts nodes (Err (At n fault)) = ⊥
  AnswersBegins counts nodes (Err (Nodes m)) =
      (n : ℕ) × (n < length nodes) × (before counts n ≤ MOST_NODES) × (MOST_NODES < before counts (n + 1))
      × (option_map (λ (x : Node P). x.«module») (slice_get nodes n) ≡ Some m)
  AnswersBegins counts nodes (Err (Edges p)) = ⊥
  AnswersBegins counts nodes (Err OutOfMemory) = ⊤

  -- The place of the first edge beyond the limit, if there is one.
  abbrev pub IsEdgeBeyond : List ℕ → List (Node P) → Option Place → Type 0
  IsEdgeBeyond counts nodes None = length (new_places counts nodes) ≤ MOST_EDGES
  IsEdgeBeyond counts nodes (Some p) = slice_get (new_places counts nodes) MOST_EDGES ≡ Some p

module _ {P B : Type 0} (s : Splitting P B) where
  -- How many variants each node has.
  abbrev pub counts_of : List ℕ
  counts_of = map length s.variants

  -- It is known where the variants of each node begin, which are few, and their variations, node by node. Those of one
  -- node differ.
  pub record IsNumbering (numbering : Numbering) : Type 0 where
    pub begins : numbering.begins.items ≡ begins counts_of
    pub few : total counts_of ≤ MOST_NODES
    pub variations : numbering.variations.items ≡ flat_map (map s.variation) s.variants
    pub differ : AllByRecursion (AllPairs (λ (b c : B). s.variation b ≢ s.variation c)) s.variants
    pub within : (n : ℕ) (v : Variation) (e : Edge) (index : ℕ) → s.lead n v e ≡ Some index
        → index < length (variants_at s e.to.0)

-- Where the variants of a node begin, by a numbering.
abbrev pub begun : Numbering → ℕ → ℕ
begun numbering t = slice_index_or numbering.begins.items t 0

-- The variations of a node's variants, by a numbering.
abbrev pub theirs : Numbering → ℕ → List Variation
theirs numbering t = slice_range numbering.variations.items (begun numbering t) (begun numbering (t + 1))

-- The numbers and the variations of a numbering fit a rule: the variations of each node stand in the list and differ,
-- and each index to which an edge leads gives a number of a node.
pub record IsFit {P B : Type 0} (rule : SplitRule P B) (numbering : Numbering) : Type 0 where
  pub rises : (t : ℕ) → t + 1 < length numbering.begins.items → begun numbering t ≤ begun numbering (t + 1)
  pub ends : (t : ℕ) → t + 1 < length numbering.begins.items
      → begun numbering (t + 1) ≤ length numbering.variations.items
  pub differ : (t : ℕ) → t + 1 < length numbering.begins.items
      → AllPairs (λ (v w : Variation). v ≢ w) (theirs numbering t)
  pub few : (n : ℕ) (v : Variation) (e : Edge) (index : ℕ) → e.to.0 + 1 < length numbering.begins.items
      → rule.lead n v e (theirs numbering e.to.0) ≡ Some index → begun numbering e.to.0 + index < MOST_NODES

module _ {P B : Type 0} (rule : SplitRule P B) (numbering : Numbering) where
  -- The edge of a variant of node n with variation v, by a numbering.
  abbrev pub led_by : ℕ → Variation → Edge → Option Edge
  led_by n v e =
      option_map (λ index. record {
        kind = e.kind;
        to = record { 0 = begun numbering e.to.0 + index };
        at = e.at;
      }) (rule.lead n v e (theirs numbering e.to.0))

  -- A variant of node n, by a numbering.
  abbrev pub node_by : ℕ → Node P → B → Node P
  node_by n x b = record {
    «module» = x.«module»;
    vars = slice_set x.vars (axis_index rule.axis) (rule.variation b);
    payload = rule.payload x b;
    edges = filter_map (led_by n (rule.variation b)) x.edges;
  }
