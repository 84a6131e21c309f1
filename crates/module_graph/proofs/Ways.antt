-- Along the nearest edges each step comes one nearer to the start.
use Rattle.std.proofs.Common.{◌≡◌, ◌≢◌, ◌<◌, ◌≤◌, ◌++◌, ℕ, suc, List, [], ◌∷◌, refl, ◌∙◌, sym, subst, arith, Option}
use Rattle.std.proofs.Common.{Some, None}
use Rattle.std.specs.List.{AllByRecursion}
use Rattle.bp_faults.proofs.Lists.{all_map, all_append}
use Rattle.graph_nodes.specs.declared.graph.Edge.{Edge}
use Rattle.graph_nodes.specs.declared.graph.Node.{Node}
use Rattle.graph_nodes.specs.Nodes.{edges_at}
use Rattle.module_graph.specs.declared.nearest.Near.{Near}
use Rattle.module_graph.specs.Graphs.{edges_of}
use Rattle.module_graph.specs.Walks.{Leads, Walk}
use Rattle.module_graph.specs.Cycles.{IsNearest, IsWay}
use Rattle.module_graph.specs.Search.{found_at, AreDistances, IsNearestFound}
use Rattle.module_graph.proofs.Nearer.{nearest_is}
use Rattle.module_graph.proofs.Outward.{all_middle, leads_out, at_target}

module _ {P : Type 0} (nodes : List (Node P)) (s : ℕ) where
  -- one edge more
  pub way_more : (n m : ℕ) (es : List Edge) (e : Edge) → IsWay nodes s n es m → m ≢ s
      → IsNearest (edges_of nodes) s (edges_at nodes m) e → IsWay nodes s n (es ++ e ∷ []) e.to.0
  way_more n m [] e way ne near =
      (λ same. ne (sym way ∙ same), subst (λ i. IsNearest (edges_of nodes) s (edges_at nodes i) e) (sym way) near, refl)
  way_more n m (x ∷ es) e way ne near = (way.0, way.1, way_more x.to.0 m es e way.2 ne near)

  module _ (found : List (Option ℕ)) (are : AreDistances (edges_of nodes) s found) where
    found_within : (t d : ℕ) → Walk (edges_of nodes) d t s → (r : Option ℕ) → found_at found t ≡ r
        → (c : ℕ) × (found_at found t ≡ Some c) × (c ≤ d)
    found_within t d w None is = absurd (are.all t d is w)
    found_within t d w (Some c) is = (c, is, (are.right t c is).least d w)

    -- where a distance was found the edges of the node lead on
    pub leads_on : (m d : ℕ) → found_at found m ≡ Some (suc d) → IsNearestFound found (edges_at nodes m) None → ⊥
    leads_on m d is none =
        let w = (are.right m (suc d) is).walk in
        are.all w.0 d (at_target (λ t. found_at found t ≡ None) nodes m none w.0 w.1) w.2

    module _ (m d : ℕ) (is : found_at found m ≡ Some (suc d)) (best : Near)
        (near : IsNearestFound found (edges_at nodes m) (Some best)) where
      abbrev AtLeast : ℕ → Type 0
      AtLeast t = (c : ℕ) → found_at found t ≡ Some c → best.distance ≤ c

      every : AllByRecursion (λ (e : Edge). AtLeast e.to.0) (edges_at nodes m)
      every = subst (λ (es : List Edge). AllByRecursion (λ (e : Edge). AtLeast e.to.0) es) (sym near.2)
          (all_append (λ (e : Edge). AtLeast e.to.0) near.0 (best.edge ∷ near.1)
          (all_map (λ (x : Edge). (c : ℕ) → found_at found x.to.0 ≡ Some c → best.distance < c)
          (λ (e : Edge). AtLeast e.to.0) (λ e h c f. let lt = h c f in omega arith) near.0 near.4) (
            λ c f. let same : Some best.distance ≡ Some c = sym near.3 ∙ f in
                let e : best.distance ≡ c = cc in
                omega arith,
            near.5,
          ))

      -- the nearest edge leads one nearer
      pub one_nearer : best.distance ≡ d
      one_nearer =
          let at = are.right m (suc d) is in
          let w = at.walk in
          let t = found_within w.0 d w.2 (found_at found w.0) refl in
          let most = at_target AtLeast nodes m every w.0 w.1 t.0 t.1 in
          let less = t.2 in
          let leads = all_middle (λ (e : Edge). Leads (edges_of nodes) m e.to.0) near.0 best.edge near.1
          (subst (λ (es : List Edge). AllByRecursion (λ (e : Edge). Leads (edges_of nodes) m e.to.0) es) near.2
          (leads_out nodes m)) in
          let more =
          at.least (suc best.distance) (best.edge.to.0, leads, (are.right best.edge.to.0 best.distance near.3).walk) in
          omega arith

      not_there : m ≢ s
      not_there same = let least = (are.right m (suc d) is).least 0 same in absurd (omega arith)

      pub way_on : (n : ℕ) (es : List Edge) → IsWay nodes s n es m
          → IsWay nodes s n (es ++ best.edge ∷ []) best.edge.to.0
      way_on n es way =
          way_more n m es best.edge way not_there (nearest_is (edges_of nodes) s found are (edges_at nodes m) best near)
