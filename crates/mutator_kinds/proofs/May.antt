-- Where a rule may be run over a new graph.
use Rattle.std.proofs.Common.{ℕ, List, [], ◌∷◌, map}
use Rattle.std.specs.List.{AllByRecursion, Contains}
use Rattle.bp_faults.specs.declared.ids.ModuleId.{ModuleId}
use Rattle.bp_faults.proofs.Lists.{all_map, all_contained}
use Rattle.graph_nodes.specs.declared.graph.Node.{Node}
use Rattle.mutator_rules.specs.Conditions.{MayRun}
use Rattle.variant_graphs.specs.Laws.{HasModulesOf}

module _ {P : Type 0} (accepts : ℕ → Type 0) where
  of_modules : (xs : List (Node P)) → AllByRecursion (λ (x : Node P). accepts x.«module».0) xs
      → AllByRecursion (λ (m : ModuleId). accepts m.0) (map (λ (x : Node P). x.«module») xs)
  of_modules [] h = tt
  of_modules (x ∷ xs) h = (h.0, of_modules xs h.1)

  pub may_still : (old new : List (Node P)) → MayRun accepts old → HasModulesOf old new → MayRun accepts new
  may_still old new may has = record {
    numbered = has.numbered;
    accepted =
        all_map (λ (x : Node P). Contains (map (λ (y : Node P). y.«module») old) x.«module»)
        (λ (x : Node P). accepts x.«module».0)
        (λ x c. all_contained (λ (m : ModuleId). accepts m.0) (map (λ (y : Node P). y.«module») old) x.«module»
        (of_modules old may.accepted) c) new has.modules;
  }
