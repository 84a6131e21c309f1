-- What stays of a graph under new payloads and in a split.
use Rattle.std.proofs.Common.{◌≡◌, ◌+◌, ◌<◌, ◌++◌, ℕ, zero, suc, List, [], ◌∷◌, map, length, refl, ap, ◌∙◌, sym, subst}
use Rattle.std.proofs.Common.{length-append, arith}
use Rattle.std.specs.Prelude.{⊤, Contains}
use Rattle.std.proofs.lemmas.List.Elements.{recursion_from_All, All-contains_itself}
use Rattle.std.specs.List.{AllByRecursion}
use Rattle.std.proofs.lemmas.List.{length-map}
use Rattle.bp_faults.specs.declared.ids.ModuleId.{ModuleId}
use Rattle.graph_nodes.specs.declared.graph.Edge.{Edge}
use Rattle.graph_nodes.specs.declared.graph.Node.{Node}
use Rattle.graph_nodes.specs.declared.variation.Variation.{Variation}
use Rattle.graph_nodes.specs.Numbered.{by_number}
use Rattle.graph_nodes.specs.Nodes.{NameNodes, all_edges}
use Rattle.module_graph.specs.declared.direction.Direction.{Direction}
use Rattle.module_graph.specs.declared.direction.Direction.TheVariants.{BottomUp, TopDown}
use Rattle.module_graph.specs.Graphs.{outward, edges_of, IsNumbered, IsValid}
use Rattle.module_graph.specs.Planned.{turned_edge, by_target, plan_of}
use Rattle.module_graph.specs.Walks.{NoneReturns}
use Rattle.variant_graphs.proofs.Alls.{all_by_number}
use Rattle.variant_graphs.specs.Laws.{HasModulesOf}
use Rattle.variant_graphs.specs.Limits.{IsWithinLimits}
use Rattle.variant_graphs.specs.Payloads.{with_payloads}
use Rattle.variant_graphs.specs.Splitting.{Splitting, variants_at, variant_node, split_nodes, HasFreeAxis}
use Rattle.variant_graphs.specs.Splits.{IsSplitting}
use Rattle.bp_faults.proofs.Lists.{get_else, all_image, all_before, Apart, apart_pairs, pairs_apart, all_each}
use Rattle.graph_nodes.specs.declared.variation.Variation.TheVariants.{Empty}
use Rattle.graph_nodes.specs.declared.variations.Axis.{Axis}
use Rattle.graph_nodes.specs.declared.variations.Axis.TheVariants.{Target, Image, Link, PerSource, Sanitize}
use Rattle.graph_nodes.specs.Axes.{axis_index}
use Rattle.std.specs.Prelude.{◌≢◌, slice_get, Some}
use Rattle.variant_graphs.proofs.Valid.{Differ, ends_stay}

module _ {P : Type 0} where
  pub length-given : (xs : List (Node P)) (ps : List P) → length (with_payloads xs ps) ≡ length xs
  length-given [] ps = refl
  length-given (x ∷ xs) [] = refl
  length-given (x ∷ xs) (p ∷ ps) = ap suc (length-given xs ps)

  -- what is made of the edges alone
  numbered_given : {A : Type 0} (f : ℕ → List Edge → List A) (k : ℕ) (xs : List (Node P)) (ps : List P)
      → by_number (λ n (x : Node P). f n x.edges) k (with_payloads xs ps)
      ≡ by_number (λ n (x : Node P). f n x.edges) k xs
  numbered_given f k [] ps = refl
  numbered_given f k (x ∷ xs) [] = refl
  numbered_given f k (x ∷ xs) (p ∷ ps) = ap (λ l. f k x.edges ++ l) (numbered_given f (k + 1) xs ps)

  pub edges_given : (xs : List (Node P)) (ps : List P) → edges_of (with_payloads xs ps) ≡ edges_of xs
  edges_given xs ps = numbered_given (λ n es. map (outward n) es) 0 xs ps

  pub plan_given : (dir : Direction) (xs : List (Node P)) (ps : List P)
      → plan_of dir (with_payloads xs ps) ≡ plan_of dir xs
  plan_given BottomUp xs ps =
      λ i. record { count = length-given xs ps i; edges = numbered_given (λ n es. map (turned_edge n) es) 0 xs ps i }
  plan_given TopDown xs ps =
      λ i. record { count = length-given xs ps i; edges = by_target (length-given xs ps i) (edges_given xs ps i) }

  -- what holds of each module, its variations and its edges
  pub all_given : (Q : ModuleId → List Variation → List Edge → Type 0) (xs : List (Node P)) (ps : List P)
      → AllByRecursion (λ (x : Node P). Q x.«module» x.vars x.edges) xs
      → AllByRecursion (λ (x : Node P). Q x.«module» x.vars x.edges) (with_payloads xs ps)
  all_given Q [] ps h = h
  all_given Q (x ∷ xs) [] h = h
  all_given Q (x ∷ xs) (p ∷ ps) h = (h.0, all_given Q xs ps h.1)

  apart_given : (xs : List (Node P)) (ps : List P) → Apart Differ xs → Apart Differ (with_payloads xs ps)
  apart_given [] ps h = h
  apart_given (x ∷ xs) [] h = h
  apart_given (x ∷ xs) (p ∷ ps) h =
      (all_given (λ m vars es. x.«module» ≡ m → x.vars ≡ vars → ⊥) xs ps h.0, apart_given xs ps h.1)

  pub ends_given : (xs : List (Node P)) (ps : List P) → NameNodes xs → NameNodes (with_payloads xs ps)
  ends_given xs ps h =
      subst (λ count. AllByRecursion (λ (x : Node P). AllByRecursion (λ (e : Edge). e.to.0 < count) x.edges)
      (with_payloads xs ps)) (sym (length-given xs ps))
      (all_given (λ m vars es. AllByRecursion (λ (e : Edge). e.to.0 < length xs) es) xs ps h)

  pub valid_given : (xs : List (Node P)) (ps : List P) → IsValid xs → IsValid (with_payloads xs ps)
  valid_given xs ps valid = record {
    ends = ends_given xs ps valid.ends;
    distinct = pairs_apart Differ (with_payloads xs ps) (apart_given xs ps (apart_pairs Differ xs valid.distinct));
    acyclic = subst NoneReturns (sym (edges_given xs ps)) valid.acyclic;
  }

  pub numbered_stays : (xs : List (Node P)) (ps : List P) → IsNumbered xs → IsNumbered (with_payloads xs ps)
  numbered_stays xs ps h = record {
    few_nodes = subst (λ n. n < 4294967296) (sym (length-given xs ps)) h.few_nodes;
    few_edges = subst (λ n. n < 4294967296) (sym (ap length (edges_given xs ps))) h.few_edges;
    ends = ends_given xs ps h.ends;
  }

  -- as many edges by node as there are
  pub length-edges : (k : ℕ) (xs : List (Node P))
      → length (by_number (λ n (x : Node P). map (outward n) x.edges) k xs) ≡ length (all_edges xs)
  length-edges k [] = refl
  length-edges k (x ∷ xs) =
      length-append (map (outward k) x.edges) (by_number (λ n (x : Node P). map (outward n) x.edges) (k + 1) xs)
      ∙ ap (λ j. j + length (by_number (λ n (x : Node P). map (outward n) x.edges) (k + 1) xs))
      (length-map x.edges (outward k))
      ∙ ap (λ j. length x.edges + j) (length-edges (k + 1) xs) ∙ sym (length-append x.edges (all_edges xs))

  pub numbered_within : (xs : List (Node P)) → NameNodes xs → IsWithinLimits xs → IsNumbered xs
  numbered_within xs ends h = record {
    few_nodes = let a = h.few_nodes in omega arith;
    few_edges = let a = h.few_edges in let b = length-edges 0 xs in omega arith;
    ends = ends;
  }

module _ {P B : Type 0} (s : Splitting P B) where
  split_modules : (Q : ModuleId → Type 0) (k : ℕ) (xs : List (Node P))
      → AllByRecursion (λ (x : Node P). Q x.«module») xs → AllByRecursion (λ (x : Node P). Q x.«module»)
      (by_number (λ n x. map (variant_node s n x) (variants_at s n)) k xs)
  split_modules Q k xs h =
      all_by_number (λ (x : Node P). Q x.«module») (λ (x : Node P). Q x.«module») (k + length xs)
      (λ n x. map (variant_node s n x) (variants_at s n))
      (λ n x lt q. all_image (λ (b : B). ⊤) (λ (y : Node P). Q y.«module») (variant_node s n x) (λ b _. q)
      (variants_at s n) (all_each (λ (b : B). ⊤) (λ b. tt) (variants_at s n))) k xs refl h

  -- what holds of each node's module holds of each variant's
  pub modules_stay : (Q : ModuleId → Type 0) (nodes : List (Node P))
      → AllByRecursion (λ (x : Node P). Q x.«module») nodes
      → AllByRecursion (λ (x : Node P). Q x.«module») (split_nodes s nodes)
  modules_stay Q nodes h = split_modules Q 0 nodes h

-- the modules of nodes are among those of the nodes
own_modules : {P : Type 0} (nodes : List (Node P))
    → AllByRecursion (λ (x : Node P). Contains (map (λ (y : Node P). y.«module») nodes) x.«module») nodes
own_modules {P} nodes =
    all_before (λ (y : Node P). y.«module») (Contains all) nodes
    (recursion_from_All (Contains all) all (All-contains_itself all))
  where
    all : List ModuleId
    all = map (λ (y : Node P). y.«module») nodes

pub modules_given : {P : Type 0} (nodes : List (Node P)) (outs : List P) → IsNumbered nodes
    → HasModulesOf nodes (with_payloads nodes outs)
modules_given {P} nodes outs numbered = record {
  numbered = numbered_stays nodes outs numbered;
  modules = all_given (λ m vars es. Contains (map (λ (y : Node P). y.«module») nodes) m) nodes outs (own_modules nodes);
}

pub free_given : {P : Type 0} (nodes : List (Node P)) (outs : List P) (axis : Axis) → HasFreeAxis axis nodes
    → HasFreeAxis axis (with_payloads nodes outs)
free_given nodes outs axis free =
    all_given (λ (m : ModuleId) vars es. slice_get vars (axis_index axis) ≡ Some Empty) nodes outs free

axis_at : ℕ → Axis
axis_at zero = Target
axis_at (suc zero) = Image
axis_at (suc (suc zero)) = Link
axis_at (suc (suc (suc zero))) = PerSource
axis_at (suc (suc (suc (suc n)))) = Sanitize

axis_back : (axis : Axis) → axis_at (axis_index axis) ≡ axis
unfolding axis_at
axis_back Target = refl
axis_back Image = refl
axis_back Link = refl
axis_back PerSource = refl
axis_back Sanitize = refl

-- axes that differ have indices that differ
indices_differ : (axis other : Axis) → axis ≢ other → axis_index axis ≢ axis_index other
indices_differ axis other differs same =
    differs (sym (axis_back axis) ∙ ap axis_at same ∙ axis_back other)

module _ {P B : Type 0} (s : Splitting P B) where
  pub free_stays : (nodes : List (Node P)) (axis : Axis) → axis ≢ s.axis → HasFreeAxis axis nodes
      → HasFreeAxis axis (split_nodes s nodes)
  free_stays nodes axis differs free =
      all_by_number Free Free (0 + length nodes) (λ n x. map (variant_node s n x) (variants_at s n))
      (λ n x lt q. all_image (λ (b : B). ⊤) Free (variant_node s n x)
      (λ b _. get_else x.vars (axis_index s.axis) (axis_index axis) (s.variation b) (indices_differ axis s.axis differs)
      ∙ q)
      (variants_at s n) (all_each (λ (b : B). ⊤) (λ b. tt) (variants_at s n))) 0 nodes refl free
    where
      Free : Node P → Type 0
      Free x = slice_get x.vars (axis_index axis) ≡ Some Empty

  pub modules_kept : (nodes : List (Node P)) → IsNumbered nodes → IsSplitting s nodes
      → IsWithinLimits (split_nodes s nodes) → HasModulesOf nodes (split_nodes s nodes)
  modules_kept nodes numbered splits within = record {
    numbered = numbered_within (split_nodes s nodes) (ends_stay s nodes numbered.ends splits) within;
    modules = modules_stay s (Contains (map (λ (y : Node P). y.«module») nodes)) nodes (own_modules nodes);
  }
