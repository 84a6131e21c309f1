-- The variations of the nodes meet their equation.
use Rattle.std.proofs.Common.{◌≡◌, ◌<◌, ◌++◌, ℕ, List, [], ◌∷◌, map, length, get_or, refl, ap, ◌∙◌, sym, Result, Ok}
use Rattle.serial_pass.specs.Laws.{OutsMeetTheirEquation}
use Rattle.serial_pass.specs.Plans.{predecessors}
use Rattle.graph_nodes.specs.declared.graph.Node.{Node}
use Rattle.graph_nodes.specs.declared.variation.Variation.{Variation}
use Rattle.module_graph.specs.declared.direction.Direction.TheVariants.{TopDown}
use Rattle.module_graph.specs.Graphs.{IsNumbered, IsValid}
use Rattle.module_graph.specs.Laws.{PlansOfGraphsArePlans, ValidPlansHaveNoCycle}
use Rattle.module_graph.specs.Planned.{plan_of, plan_edges}
use Rattle.mutator_rules.specs.Arrivals.{arrivals}
use Rattle.mutator_rules.specs.Laws.{PredecessorsAreArrivals}
use Rattle.mutator_rules.specs.Meaning.{TransitionMeaning}
use Rattle.transition_rules.specs.Passes.{WantsMeans}
use Rattle.transition_rules.specs.Wants.{others_of, wanted_variations, variations_meant}
use Rattle.transition_rules.proofs.Along.{then_do_ok}

map_twice : {A B C : Type 0} (f : B → C) (g : A → B) (xs : List A) → map f (map g xs) ≡ map (λ x. f (g x)) xs
map_twice f g [] = refl
map_twice f g (x ∷ xs) = ap (λ l. f (g x) ∷ l) (map_twice f g xs)

module _ {P : Type 0} (meet : OutsMeetTheirEquation (List Variation)) (plans : PlansOfGraphsArePlans P)
    (free : ValidPlansHaveNoCycle P) (come : PredecessorsAreArrivals P)
    (m : TransitionMeaning P) (nodes : List (Node P)) (lists : List (List Variation))
    (numbered : IsNumbered nodes) (valid : IsValid nodes) (wants : WantsMeans m nodes (Ok lists)) where
  pub equation : (n : ℕ) → n < length nodes
      → (own : List Variation) × (m.split nodes n ≡ Ok own) × (get_or lists n [] ≡ own ++ others_of own
      (wanted_variations m nodes n (arrivals nodes n) (map (λ a. get_or lists a.0.0 []) (arrivals nodes n))))
  equation n lt =
      let h = meet (variations_meant m nodes) (plan_of TopDown nodes) lists n [] (plans nodes TopDown numbered)
      (free nodes TopDown valid) wants lt in
      let before : map (λ k. get_or lists k []) (predecessors (plan_edges TopDown nodes) n)
      ≡ map (λ a. get_or lists a.0.0 []) (arrivals nodes n) =
      ap (map (λ k. get_or lists k [])) (come nodes n lt)
      ∙ map_twice (λ k. get_or lists k []) (λ a. a.0.0) (arrivals nodes n) in
      let r = then_do_ok (m.split nodes n) (λ own. Ok (own ++ others_of own
      (wanted_variations m nodes n (arrivals nodes n) (map (λ a. get_or lists a.0.0 []) (arrivals nodes n)))))
      (get_or lists n []) (ap (variations_meant m nodes n) (sym before) ∙ h) in (
        r.0,
        r.1,
        same_ok (get_or lists n []) (r.0 ++ others_of r.0
            (wanted_variations m nodes n (arrivals nodes n) (map (λ a. get_or lists a.0.0 []) (arrivals nodes n)))) r.2,
      )
    where
      same_ok : {A E : Type 0} (x y : A) → ◌≡◌ {A = Result A E} (Ok y) (Ok x) → x ≡ y
      same_ok x y e = cc
