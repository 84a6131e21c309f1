-- What is handed on of the answers of passes and splits, and which rules may be run over a new graph.
use Rattle.std.proofs.Common.{◌≡◌, subst, sym, map, List, [], ◌∷◌, ℕ, Result, Ok, Err}
use Rattle.std.specs.List.{AllByRecursion}
use Rattle.std.specs.Prelude.{Contains}
use Rattle.std.specs.Result.{IsErr, IsErrAnd}
use Rattle.bp_faults.specs.declared.ids.ModuleId.{ModuleId}
use Rattle.bp_faults.proofs.Lists.{all_contained, all_map}
use Rattle.graph_nodes.specs.declared.graph.Node.{Node}
use Rattle.mutator_rules.specs.Conditions.{MayRun}
use Rattle.variant_graphs.specs.Laws.{HasModulesOf}

-- an error that is handed on says what it said
pub handed : {T E : Type 0} (Q : Result T E → Type 0) (e : E) (r : Result T E) → IsErr r → IsErrAnd r (λ x. x ≡ e)
    → Q (Err e) → Q r
handed Q e (Ok made) err is h = cc
handed Q e (Err x) err is h = subst (λ y. Q (Err y)) (sym is) h

-- a rule that may be run over old nodes may be run over new ones of their modules
pub may_run_on : {P : Type 0} (accepts : ℕ → Type 0) (old new : List (Node P)) → MayRun accepts old
    → HasModulesOf old new → MayRun accepts new
may_run_on {P} accepts old new may has = record {
  numbered = has.numbered;
  accepted = all_map (λ (x : Node P). Contains modules x.«module») (λ (x : Node P). accepts x.«module».0)
      (λ x inside. all_contained (λ (at : ModuleId). accepts at.0) modules x.«module» (taken old may.accepted) inside)
      new has.modules;
}
  where
    modules : List ModuleId
    modules = map (λ (y : Node P). y.«module») old

    taken : (xs : List (Node P)) → AllByRecursion (λ (x : Node P). accepts x.«module».0) xs
        → AllByRecursion (λ (at : ModuleId). accepts at.0) (map (λ (y : Node P). y.«module») xs)
    taken [] h = tt
    taken (x ∷ xs) h = (h.0, taken xs h.1)
