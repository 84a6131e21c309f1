-- The nearest of some edges, by the distances found.
use Rattle.std.proofs.Common.{◌≡◌, ◌+◌, ◌<◌, ◌≤◌, ◌++◌, ℕ, List, [], ◌∷◌, length, take, get_or, refl, ap, ◌∙◌, sym}
use Rattle.std.proofs.Common.{subst, arith, Bool, true, false, cond, Option, Some, None, append_assoc}
use Rattle.std.specs.Prelude.{nat_lt}
use Rattle.std.specs.List.{AllByRecursion}
use Rattle.std.proofs.lemmas.Bool.Decides.{nat_tests}
use Rattle.std.proofs.lemmas.List.{take_more}
use Rattle.serial_pass.specs.declared.plan.PlanEdge.{PlanEdge}
use Rattle.graph_nodes.specs.declared.graph.Edge.{Edge}
use Rattle.module_graph.specs.declared.nearest.Near.{Near}
use Rattle.module_graph.specs.Walks.{Walk}
use Rattle.module_graph.specs.Cycles.{IsNearest}
use Rattle.module_graph.specs.Search.{found_at, AreDistances, IsNearestFound, nearer}
use Rattle.bp_faults.proofs.Lists.{all_map, all_append}

module _ (found : List (Option ℕ)) where
  abbrev Above : ℕ → Edge → Type 0
  Above d x = (c : ℕ) → found_at found x.to.0 ≡ Some c → d < c

  abbrev AtLeast : ℕ → Edge → Type 0
  AtLeast d x = (c : ℕ) → found_at found x.to.0 ≡ Some c → d ≤ c

  module _ (es : List Edge) (e : Edge) where
    kept : (best : Near) → IsNearestFound found es (Some best) → AtLeast best.distance e
        → IsNearestFound found (es ++ e ∷ []) (Some best)
    kept best h more = (
      h.0,
      h.1 ++ e ∷ [],
      ap (λ (l : List Edge). l ++ e ∷ []) h.2 ∙ append_assoc h.0 (best.edge ∷ h.1) (e ∷ []),
      h.3,
      h.4,
      all_append (AtLeast best.distance) h.1 (e ∷ []) h.5 (more, tt),
    )

    by_test : (best : Near) (d : ℕ) → IsNearestFound found es (Some best) → found_at found e.to.0 ≡ Some d → (b : Bool)
        → nat_lt d best.distance ≡ b
        → IsNearestFound found (es ++ e ∷ []) (cond b (Some (record { edge = e; distance = d })) (Some best))
    by_test best d h is true less =
        let lt : d < best.distance = grind (arith, nat_tests) in (
          es,
          [],
          refl,
          is,
          subst (λ (l : List Edge). AllByRecursion (Above d) l) (sym h.2)
              (all_append (Above d) h.0 (best.edge ∷ h.1)
              (all_map (Above best.distance) (Above d) (λ x k c f. let a = k c f in omega arith) h.0 h.4) (
                λ c f. let g : Some best.distance ≡ Some c = sym h.3 ∙ f in
                    let s : best.distance ≡ c = cc in
                    omega arith,
                all_map (AtLeast best.distance) (Above d)
                    (λ x k c f. let a = k c f in omega arith) h.1 h.5,
              )),
          tt,
        )
    by_test best d h is false less =
        let le : best.distance ≤ d = grind (arith, nat_tests) in
        kept best h (λ c f. let g : Some d ≡ Some c = sym is ∙ f in let s : d ≡ c = cc in omega arith)

    one_more : (best : Option Near) (there : Option ℕ) → found_at found e.to.0 ≡ there → IsNearestFound found es best
        → IsNearestFound found (es ++ e ∷ []) (nearer best e there)
    one_more None None is h = all_append (λ (x : Edge). found_at found x.to.0 ≡ None) es (e ∷ []) h (is, tt)
    one_more (Some best) None is h = kept best h (λ c f. let g : None ≡ Some c = sym is ∙ f in cc)
    one_more None (Some d) is h = (
      es,
      [],
      refl,
      is,
      all_map (λ (x : Edge). found_at found x.to.0 ≡ None) (Above d)
          (λ x k c f. let g : None ≡ Some c = sym k ∙ f in cc) es h,
      tt,
    )
    one_more (Some best) (Some d) is h = by_test best d h is (nat_lt d best.distance) refl

  pub nearest_step : (es : List Edge) (i : ℕ) (d : Edge) (best r : Option Near) → i < length es
      → IsNearestFound found (take i es) best → r ≡ nearer best (get_or es i d) (found_at found (get_or es i d).to.0)
      → IsNearestFound found (take (i + 1) es) r
  nearest_step es i d best r lt h is =
      subst (λ (l : List Edge). IsNearestFound found l r) (sym (take_more es i d lt))
      (subst (λ x. IsNearestFound found (take i es ++ get_or es i d ∷ []) x) (sym is)
      (one_more (take i es) (get_or es i d) best (found_at found (get_or es i d).to.0) refl h))

-- by right distances it is the nearest by walks
module _ (edges : List PlanEdge) (s : ℕ) (found : List (Option ℕ)) (are : AreDistances edges s found) where
  above : (d : ℕ) (x : Edge) (r : Option ℕ) → found_at found x.to.0 ≡ r → Above found d x → (k : ℕ)
      → Walk edges k x.to.0 s → d < k
  above d x None is h k w = absurd (are.all x.to.0 k is w)
  above d x (Some c) is h k w = let a = h c is in let b = (are.right x.to.0 c is).least k w in omega arith

  at_least : (d : ℕ) (x : Edge) (r : Option ℕ) → found_at found x.to.0 ≡ r → AtLeast found d x → (k : ℕ)
      → Walk edges k x.to.0 s → d ≤ k
  at_least d x None is h k w = absurd (are.all x.to.0 k is w)
  at_least d x (Some c) is h k w = let a = h c is in let b = (are.right x.to.0 c is).least k w in omega arith

  pub nearest_is : (es : List Edge) (best : Near) → IsNearestFound found es (Some best) → IsNearest edges s es best.edge
  nearest_is es best h = record {
    before = h.0;
    after = h.1;
    distance = best.distance;
    parts = h.2;
    away = are.right best.edge.to.0 best.distance h.3;
    earlier =
        all_map (Above found best.distance) (λ (x : Edge). (k : ℕ) → Walk edges k x.to.0 s → best.distance < k)
        (λ x f. above best.distance x (found_at found x.to.0) refl f) h.0 h.4;
    later =
        all_map (AtLeast found best.distance) (λ (x : Edge). (k : ℕ) → Walk edges k x.to.0 s → best.distance ≤ k)
        (λ x f. at_least best.distance x (found_at found x.to.0) refl f) h.1 h.5;
  }
