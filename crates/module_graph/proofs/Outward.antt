-- The edges of a node are those of the graph that begin at it.
use Rattle.std.proofs.Common.{◌≡◌, ◌≢◌, ◌+◌, ◌<◌, ◌≤◌, ◌++◌, ℕ, zero, suc, List, [], ◌∷◌, map, length, get_or, refl}
use Rattle.std.proofs.Common.{subst, arith, zero-add}
use Rattle.std.specs.Prelude.{Contains}
use Rattle.std.specs.List.{AllByRecursion}
use Rattle.std.proofs.lemmas.List.Elements.{All-from_recursion, recursion_from_All, All-contains, All-contains_itself}
use Rattle.serial_pass.specs.declared.plan.PlanEdge.{PlanEdge}
use Rattle.bp_faults.proofs.Lists.{all_map, all_append, all_image, all_before}
use Rattle.graph_nodes.specs.declared.graph.Edge.{Edge}
use Rattle.graph_nodes.specs.declared.graph.Node.{Node}
use Rattle.graph_nodes.specs.Numbered.{by_number}
use Rattle.graph_nodes.specs.Nodes.{edges_at}
use Rattle.module_graph.specs.Graphs.{outward, edges_of}
use Rattle.module_graph.specs.Walks.{Leads}

all_first : {A : Type 0} (Q : A → Type 0) (xs ys : List A) → AllByRecursion Q (xs ++ ys) → AllByRecursion Q xs
all_first Q [] ys h = tt
all_first Q (x ∷ xs) ys h = (h.0, all_first Q xs ys h.1)

all_second : {A : Type 0} (Q : A → Type 0) (xs ys : List A) → AllByRecursion Q (xs ++ ys) → AllByRecursion Q ys
all_second Q [] ys h = h
all_second Q (x ∷ xs) ys h = all_second Q xs ys h.1

-- what holds of each item holds of one in the middle
pub all_middle : {A : Type 0} (Q : A → Type 0) (xs : List A) (x : A) (ys : List A) → AllByRecursion Q (xs ++ x ∷ ys)
    → Q x
all_middle Q xs x ys h = (all_second Q xs (x ∷ ys) h).0

here_only : (Q : ℕ → Type 0) (k n : ℕ) (es : List Edge) → k ≢ n
    → AllByRecursion (λ (e : PlanEdge). e.from.0 ≡ n → Q e.to.0) (map (outward k) es)
here_only Q k n [] ne = tt
here_only Q k n (e ∷ es) ne = (λ same. absurd (ne same), here_only Q k n es ne)

module _ {P : Type 0} where
  pub edges_at_is : (nodes : List (Node P)) (n : ℕ) (x : Node P) → n < length nodes
      → edges_at nodes n ≡ (get_or nodes n x).edges
  edges_at_is [] n x lt = absurd (omega arith)
  edges_at_is (y ∷ ys) zero x lt = refl
  edges_at_is (y ∷ ys) (suc n) x lt = edges_at_is ys n x (omega arith)

  abbrev pieces : ℕ → Node P → List PlanEdge
  pieces n x = map (outward n) x.edges

  all_at : (R : PlanEdge → Type 0) (nodes : List (Node P)) (k j : ℕ) → AllByRecursion R (by_number pieces k nodes)
      → AllByRecursion (λ e. R (outward (k + j) e)) (edges_at nodes j)
  all_at R [] k j h = tt
  all_at R (x ∷ xs) k zero h =
      let e : k ≡ k + zero = omega arith in
      subst (λ i. AllByRecursion (λ e. R (outward i e)) x.edges) e
      (all_before (outward k) R x.edges (all_first R (pieces k x) (by_number pieces (k + 1) xs) h))
  all_at R (x ∷ xs) k (suc j) h =
      let e : (k + 1) + j ≡ k + suc j = omega arith in
      subst (λ i. AllByRecursion (λ e. R (outward i e)) (edges_at xs j)) e
      (all_at R xs (k + 1) j (all_second R (pieces k x) (by_number pieces (k + 1) xs) h))

  -- each edge of a node leads from it to its target
  pub leads_out : (nodes : List (Node P)) (n : ℕ)
      → AllByRecursion (λ (e : Edge). Leads (edges_of nodes) n e.to.0) (edges_at nodes n)
  leads_out nodes n =
      let es = edges_of nodes in
      all_map (λ (e : Edge). Contains es (outward (0 + n) e)) (λ (e : Edge). Leads es n e.to.0)
      (λ e has. (outward (0 + n) e, has, zero-add n, refl)) (edges_at nodes n)
      (all_at (Contains es) nodes 0 n (recursion_from_All (Contains es) es (All-contains_itself es)))

  from_above : (nodes : List (Node P)) (k : ℕ)
      → AllByRecursion (λ (e : PlanEdge). k ≤ e.from.0) (by_number pieces k nodes)
  from_above [] k = tt
  from_above (x ∷ xs) k = all_append (λ (e : PlanEdge). k ≤ e.from.0) (pieces k x) (by_number pieces (k + 1) xs)
      (each (outward k) x.edges (λ e. omega arith))
      (all_map (λ (e : PlanEdge). k + 1 ≤ e.from.0) (λ (e : PlanEdge). k ≤ e.from.0) (λ e h. omega arith)
      (by_number pieces (k + 1) xs) (from_above xs (k + 1)))
    where
      each : (f : Edge → PlanEdge) (es : List Edge) → ((e : Edge) → k ≤ (f e).from.0)
          → AllByRecursion (λ (e : PlanEdge). k ≤ e.from.0) (map f es)
      each f [] h = tt
      each f (e ∷ es) h = (h e, each f es h)

  all_from : (Q : ℕ → Type 0) (nodes : List (Node P)) (k j : ℕ)
      → AllByRecursion (λ (e : Edge). Q e.to.0) (edges_at nodes j)
      → AllByRecursion (λ (e : PlanEdge). e.from.0 ≡ k + j → Q e.to.0) (by_number pieces k nodes)
  all_from Q [] k j h = tt
  all_from Q (x ∷ xs) k zero h =
      all_append (λ (e : PlanEdge). e.from.0 ≡ k + zero → Q e.to.0) (pieces k x) (by_number pieces (k + 1) xs)
      (all_image (λ (e : Edge). Q e.to.0) (λ (e : PlanEdge). e.from.0 ≡ k + zero → Q e.to.0) (outward k)
      (λ e q same. q) x.edges h)
      (all_map (λ (e : PlanEdge). k + 1 ≤ e.from.0) (λ (e : PlanEdge). e.from.0 ≡ k + zero → Q e.to.0)
      (λ e le same. absurd (omega arith)) (by_number pieces (k + 1) xs) (from_above xs (k + 1)))
  all_from Q (x ∷ xs) k (suc j) h =
      let ne : k ≢ k + suc j = omega arith in let e : (k + 1) + j ≡ k + suc j = omega arith in
      all_append (λ (e : PlanEdge). e.from.0 ≡ k + suc j → Q e.to.0) (pieces k x) (by_number pieces (k + 1) xs)
      (here_only Q k (k + suc j) x.edges ne)
      (subst (λ i. AllByRecursion (λ (e : PlanEdge). e.from.0 ≡ i → Q e.to.0) (by_number pieces (k + 1) xs)) e
      (all_from Q xs (k + 1) j h))

  -- what holds of the targets of a node's edges holds of each node to which a step leads from it
  pub at_target : (Q : ℕ → Type 0) (nodes : List (Node P)) (n : ℕ)
      → AllByRecursion (λ (e : Edge). Q e.to.0) (edges_at nodes n) → (m : ℕ) → Leads (edges_of nodes) n m → Q m
  at_target Q nodes n h m l =
      let all = subst (λ i. AllByRecursion (λ (e : PlanEdge). e.from.0 ≡ i → Q e.to.0) (edges_of nodes)) (zero-add n)
      (all_from Q nodes 0 n h) in
      subst Q l.3 (All-contains (λ (e : PlanEdge). e.from.0 ≡ n → Q e.to.0) (edges_of nodes) l.0
      (All-from_recursion (λ (e : PlanEdge). e.from.0 ≡ n → Q e.to.0) (edges_of nodes) all) l.1 l.2)
