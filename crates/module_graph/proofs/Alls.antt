-- What holds of each item of a list.
use Rattle.std.proofs.Common.{◌≡◌, ◌+◌, ◌<◌, arith, zero-add, suc, ℕ, List, [], ◌∷◌, map, length, take, get_or, subst}
use Rattle.std.proofs.Common.{sym}
use Rattle.std.specs.List.{AllByRecursion}
use Rattle.std.proofs.lemmas.List.{take_more}
use Rattle.serial_pass.specs.declared.plan.PlanEdge.{PlanEdge}
use Rattle.serial_pass.specs.Plans.{HaveEndsBelow}
use Rattle.bp_faults.proofs.Lists.{all_pushed, all_append, all_image}
use Rattle.graph_nodes.specs.declared.graph.Edge.{Edge}
use Rattle.graph_nodes.specs.declared.graph.Node.{Node}
use Rattle.graph_nodes.specs.Numbered.{by_number}
use Rattle.graph_nodes.specs.Nodes.{NameNodes}
use Rattle.module_graph.specs.declared.direction.Direction.TheVariants.{BottomUp}
use Rattle.module_graph.specs.Graphs.{outward, edges_of}
use Rattle.module_graph.specs.Planned.{turned_edge, plan_edges}

-- one item more
pub all_taken : {A : Type 0} (P : A → Type 0) (xs : List A) (i : ℕ) (d : A) → i < length xs
    → AllByRecursion P (take i xs) → P (get_or xs i d) → AllByRecursion P (take (i + 1) xs)
all_taken P xs i d lt h here =
    subst (λ l. AllByRecursion P l) (sym (take_more xs i d lt)) (all_pushed P (take i xs) (get_or xs i d) h here)

pub all_by_number : {X A : Type 0} (P : X → Type 0) (Q : A → Type 0) (bound : ℕ) (f : ℕ → X → List A)
    → ((n : ℕ) (x : X) → n < bound → P x → AllByRecursion Q (f n x))
    → (k : ℕ) (xs : List X) → k + length xs ≡ bound → AllByRecursion P xs → AllByRecursion Q (by_number f k xs)
all_by_number P Q bound f imp k [] e h = tt
all_by_number {X} P Q bound f imp k (x ∷ xs) e h =
    all_append Q (f k x) (by_number f (k + 1) xs) (imp k x (below k (length xs) bound e) h.0)
    (all_by_number P Q bound f imp (k + 1) xs (next k (length xs) bound e) h.1)
  where
    below : (k n bound : ℕ) → k + suc n ≡ bound → k < bound
    below k n bound e = omega arith

    next : (k n bound : ℕ) → k + suc n ≡ bound → (k + 1) + n ≡ bound
    next k n bound e = omega arith

module _ {P : Type 0} (nodes : List (Node P)) (ends : NameNodes nodes) where
  -- both ends of each edge of a graph are nodes
  pub edges_of_ends : HaveEndsBelow (length nodes) (edges_of nodes)
  edges_of_ends =
      all_by_number (λ (x : Node P). AllByRecursion (λ (e : Edge). e.to.0 < length nodes) x.edges) (λ (e : PlanEdge).
      (e.from.0 < length nodes) × (e.to.0 < length nodes)) (length nodes) (λ n (x : Node P). map (outward n) x.edges)
      (λ n x lt h. all_image (λ (e : Edge). e.to.0 < length nodes) (λ (e : PlanEdge). (e.from.0 < length nodes)
      × (e.to.0 < length nodes)) (outward n) (λ e k. (lt, k)) x.edges h) 0 nodes (zero-add (length nodes)) ends

  pub turned_ends : HaveEndsBelow (length nodes) (plan_edges BottomUp nodes)
  turned_ends =
      all_by_number (λ (x : Node P). AllByRecursion (λ (e : Edge). e.to.0 < length nodes) x.edges)
      (λ (e : PlanEdge). (e.from.0 < length nodes) × (e.to.0 < length nodes)) (length nodes)
      (λ n (x : Node P). map (turned_edge n) x.edges)
      (λ n x lt h. all_image (λ (e : Edge). e.to.0 < length nodes) (λ (e : PlanEdge). (e.from.0 < length nodes)
      × (e.to.0 < length nodes)) (turned_edge n) (λ e k. (k, lt)) x.edges h) 0 nodes (zero-add (length nodes)) ends
