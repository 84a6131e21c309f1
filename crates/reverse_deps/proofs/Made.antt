-- The graph with the edges that its nodes get: what it keeps of the graph as it was.
use Rattle.std.proofs.Common.{◌≡◌, ◌<◌, ◌≤◌, ◌+◌, ◌^◌, ℕ, Bool, true, false, cond, List, [], ◌∷◌, Some, None, Ok}
use Rattle.std.proofs.Common.{length, map, nat_eq, refl, sym, ◌∙◌, subst, arith, length-append}
use Rattle.std.specs.List.{AllByRecursion, cons_option}
use Rattle.std.proofs.lemmas.List.{length-map}
use Rattle.bp_faults.specs.declared.limits.TheConstants.{MOST_EDGES}
use Rattle.bp_faults.proofs.Lists.{all_append, Apart, apart_pairs, pairs_apart}
use Rattle.graph_nodes.specs.declared.graph.Edge.{Edge}
use Rattle.graph_nodes.specs.declared.graph.Node.{Node}
use Rattle.graph_nodes.specs.Numbered.{by_number}
use Rattle.graph_nodes.specs.Nodes.{NameNodes, all_edges}
use Rattle.module_graph.specs.Graphs.{outward, edges_of, IsValid}
use Rattle.module_graph.specs.Walks.{NoneReturns}
use Rattle.mutator_rules.specs.Conditions.{MayRun}
use Rattle.reverse_deps.specs.Applied.{edges_counted}
use Rattle.reverse_deps.specs.Linked.{Link, gained_edges, linked_from, linked_nodes}
use Rattle.reverse_deps.proofs.Counted.{few_edges}
use Rattle.reverse_deps.proofs.Gained.{many_linked}
use Rattle.reverse_deps.proofs.Inside.{LinksInside}

-- what a node gets leads to nodes
gained_inside : (count n : ℕ) (ls : List Link) → AllByRecursion (LinksInside count) ls
    → AllByRecursion (λ (e : Edge). e.to.0 < count) (gained_edges n ls)
gained_inside count n [] all = tt
gained_inside count n (l ∷ ls) all = by (nat_eq l.0.0 n) (gained_inside count n ls all.1)
  where
    by : (b : Bool) → AllByRecursion (λ (e : Edge). e.to.0 < count) (gained_edges n ls)
        → AllByRecursion (λ (e : Edge). e.to.0 < count) (cons_option (cond b (Some l.1) None) (gained_edges n ls))
    by true rest = (all.0.1, rest)
    by false rest = rest

module _ {P : Type 0} where
  ends_from : (count k : ℕ) (xs : List (Node P)) (ls : List Link) → AllByRecursion (LinksInside count) ls
      → AllByRecursion (λ (x : Node P). AllByRecursion (λ (e : Edge). e.to.0 < count) x.edges) xs
      → AllByRecursion (λ (x : Node P). AllByRecursion (λ (e : Edge). e.to.0 < count) x.edges) (linked_from k xs ls)
  ends_from count k [] ls inside ends = tt
  ends_from count k (x ∷ xs) ls inside ends = (
    all_append (λ (e : Edge). e.to.0 < count) x.edges (gained_edges k ls) ends.0 (gained_inside count k ls inside),
    ends_from count (k + 1) xs ls inside ends.1,
  )

  -- each edge names a node
  pub ends_linked : (nodes : List (Node P)) (ls : List Link) → AllByRecursion (LinksInside (length nodes)) ls
      → NameNodes nodes → NameNodes (linked_nodes nodes ls)
  ends_linked nodes ls inside ends =
      subst (λ count. AllByRecursion (λ (x : Node P). AllByRecursion (λ (e : Edge). e.to.0 < count) x.edges)
      (linked_nodes nodes ls)) (sym (many_linked nodes ls)) (ends_from (length nodes) 0 nodes ls inside ends)

  accepted_from : (accepts : ℕ → Type 0) (k : ℕ) (xs : List (Node P)) (ls : List Link)
      → AllByRecursion (λ (x : Node P). accepts x.«module».0) xs
      → AllByRecursion (λ (x : Node P). accepts x.«module».0) (linked_from k xs ls)
  accepted_from accepts k [] ls all = tt
  accepted_from accepts k (x ∷ xs) ls all = (all.0, accepted_from accepts (k + 1) xs ls all.1)

  many_edges : (k : ℕ) (xs : List (Node P))
      → length (by_number (λ n (x : Node P). map (outward n) x.edges) k xs) ≡ length (all_edges xs)
  many_edges k [] = refl
  many_edges k (x ∷ xs) =
      length-append (map (outward k) x.edges) (by_number (λ n (y : Node P). map (outward n) y.edges) (k + 1) xs)
      ∙ (λ i. length-map x.edges (outward k) i + many_edges (k + 1) xs i)
      ∙ sym (length-append x.edges (all_edges xs))

  -- a rule may be run over it
  pub may_linked : (accepts : ℕ → Type 0) (nodes : List (Node P)) (ls : List Link) → MayRun accepts nodes
      → AllByRecursion (LinksInside (length nodes)) ls → edges_counted (linked_nodes nodes ls) ≡ Ok tt
      → MayRun accepts (linked_nodes nodes ls)
  may_linked accepts nodes ls may inside counted =
      let many = many_linked nodes ls in
      let as_many = many_edges 0 (linked_nodes nodes ls) in
      let few : length (all_edges (linked_nodes nodes ls)) ≤ MOST_EDGES = few_edges (linked_nodes nodes ls) counted in
      let few_nodes = may.numbered.few_nodes in
      record {
        numbered = record {
          few_nodes = subst (λ n. n < 2 ^ 32) (sym many) few_nodes;
          few_edges = subst (λ n. n < 2 ^ 32) (sym as_many) (omega arith);
          ends = ends_linked nodes ls inside may.numbered.ends;
        };
        accepted = accepted_from accepts 0 nodes ls may.accepted;
      }

  abbrev Differ : Node P → Node P → Type 0
  Differ x y = x.«module» ≡ y.«module» → x.vars ≡ y.vars → ⊥

  differ_from : (x : Node P) (k : ℕ) (xs : List (Node P)) (ls : List Link) → AllByRecursion (Differ x) xs
      → AllByRecursion (Differ x) (linked_from k xs ls)
  differ_from x k [] ls all = tt
  differ_from x k (y ∷ xs) ls all = (all.0, differ_from x (k + 1) xs ls all.1)

  apart_from : (k : ℕ) (xs : List (Node P)) (ls : List Link) → Apart Differ xs → Apart Differ (linked_from k xs ls)
  apart_from k [] ls apart = tt
  apart_from k (x ∷ xs) ls apart = (differ_from x (k + 1) xs ls apart.0, apart_from (k + 1) xs ls apart.1)

  -- it is valid, where no walk in it returns
  pub valid_linked : (nodes : List (Node P)) (ls : List Link) → IsValid nodes
      → AllByRecursion (LinksInside (length nodes)) ls → NoneReturns (edges_of (linked_nodes nodes ls))
      → IsValid (linked_nodes nodes ls)
  valid_linked nodes ls valid inside acyclic = record {
    ends = ends_linked nodes ls inside valid.ends;
    distinct =
        pairs_apart Differ (linked_nodes nodes ls) (apart_from 0 nodes ls (apart_pairs Differ nodes valid.distinct));
    acyclic = acyclic;
  }
