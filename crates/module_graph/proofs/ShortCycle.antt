-- The reported cycle is a walk from its start back to it, and none is shorter.
use Rattle.std.proofs.Common.{◌<◌, ◌≤◌, ℕ, zero, suc, List, [], ◌∷◌, length, sym, subst, arith}
use Rattle.std.specs.List.{AllByRecursion}
use Rattle.bp_faults.proofs.Lists.{all_map, all_append}
use Rattle.graph_nodes.specs.declared.graph.Edge.{Edge}
use Rattle.graph_nodes.specs.declared.graph.Node.{Node}
use Rattle.graph_nodes.specs.Nodes.{edges_at}
use Rattle.module_graph.specs.Graphs.{edges_of}
use Rattle.module_graph.specs.Walks.{Leads, Walk}
use Rattle.module_graph.specs.Cycles.{IsNearest, IsWay, IsCycle}
use Rattle.module_graph.proofs.Outward.{all_middle, leads_out, at_target}

module _ {P : Type 0} (nodes : List (Node P)) (s : ℕ) where
  abbrev Within : ℕ → ℕ → Type 0
  Within d t = (k : ℕ) → Walk (edges_of nodes) k t s → d ≤ k

  pub nearest_leads : (n : ℕ) (e : Edge) → IsNearest (edges_of nodes) s (edges_at nodes n) e
      → Leads (edges_of nodes) n e.to.0
  nearest_leads n e near =
      all_middle (λ (x : Edge). Leads (edges_of nodes) n x.to.0) near.before e near.after (subst (λ (es : List Edge).
      AllByRecursion (λ (x : Edge). Leads (edges_of nodes) n x.to.0) es) near.parts (leads_out nodes n))

  -- each walk from a node to the start is longer than that from the nearest edge on
  pub nearest_within : (n : ℕ) (e : Edge) (near : IsNearest (edges_of nodes) s (edges_at nodes n) e) (k : ℕ)
      → Walk (edges_of nodes) (suc k) n s → near.distance ≤ k
  nearest_within n e near k w =
      at_target (Within near.distance) nodes n
      (subst (λ (es : List Edge). AllByRecursion (λ (x : Edge). Within near.distance x.to.0) es) (sym near.parts)
      (all_append (λ (x : Edge). Within near.distance x.to.0) near.before (e ∷ near.after)
      (all_map (λ (x : Edge). (j : ℕ) → Walk (edges_of nodes) j x.to.0 s → near.distance < j)
      (λ (x : Edge). Within near.distance x.to.0) (λ x h j v. let lt = h j v in omega arith) near.before near.earlier)
      (near.away.least, near.later))) w.0 w.1 k w.2

  way_walk : (n : ℕ) (es : List Edge) → IsWay nodes s n es s → Walk (edges_of nodes) (length es) n s
  way_walk n [] way = way
  way_walk n (e ∷ es) way = (e.to.0, nearest_leads n e way.1, way_walk e.to.0 es way.2)

  way_short : (n : ℕ) (es : List Edge) → IsWay nodes s n es s → (k : ℕ) → Walk (edges_of nodes) k n s → length es ≤ k
  way_short n [] way k w = omega arith
  way_short n (e ∷ es) way zero w = absurd (way.0 w)
  way_short n (e ∷ es) way (suc k) w =
      let within = nearest_within n e way.1 k w in
      let rest = way_short e.to.0 es way.2 way.1.distance way.1.away.walk in
      omega arith

  pub cycle_walk : (first : Edge) (rest : List Edge) → IsCycle nodes s first rest
      → Walk (edges_of nodes) (suc (length rest)) s s
  cycle_walk first rest c = (first.to.0, nearest_leads s first c.begins, way_walk first.to.0 rest c.goes)

  pub cycle_short : (first : Edge) (rest : List Edge) → IsCycle nodes s first rest → (k : ℕ)
      → Walk (edges_of nodes) (suc k) s s → length rest ≤ k
  cycle_short first rest c k w =
      let within = nearest_within s first c.begins k w in
      let short = way_short first.to.0 rest c.goes c.begins.distance c.begins.away.walk in
      omega arith
