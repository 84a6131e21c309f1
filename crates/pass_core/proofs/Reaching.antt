-- A state that is reached leads to another by each step that it allows.
use Rattle.std.proofs.Common.{◌≡◌, ℕ, List, [], ◌∷◌, ◌++◌, ◌+◌, length-append, refl, ap, ◌∙◌, sym, subst, Result}
use Rattle.bp_faults.specs.declared.fault.Fault.{Fault}
use Rattle.serial_pass.specs.declared.plan.Plan.{Plan}
use Rattle.pass_core.specs.declared.step.Step.{Step}
use Rattle.pass_core.specs.CoreStates.{CoreState, Allows, after, beginning, after_all, AreAllowed, IsReachedIn}

module _ {O : Type 0} (mean : ℕ → List O → Result O Fault) (plan : Plan) where
  after_snoc : (s : CoreState O) (ts : List Step) (t : Step)
      → after_all mean plan s (ts ++ t ∷ []) ≡ after mean plan (after_all mean plan s ts) t
  after_snoc s [] t = refl
  after_snoc s (u ∷ ts) t = after_snoc (after mean plan s u) ts t

  allowed_snoc : (s : CoreState O) (ts : List Step) (t : Step) → AreAllowed mean plan s ts
      → Allows plan (after_all mean plan s ts) t → AreAllowed mean plan s (ts ++ t ∷ [])
  allowed_snoc s [] t h may = (may, tt)
  allowed_snoc s (u ∷ ts) t h may = (h.0, allowed_snoc (after mean plan s u) ts t h.1 may)

  pub one_more_step : (s : CoreState O) (t : Step) (many : ℕ) → IsReachedIn mean plan many s → Allows plan s t
      → IsReachedIn mean plan (many + 1) (after mean plan s t)
  one_more_step s t many reached may = (
    reached.0 ++ t ∷ [],
    record {
      allowed =
          allowed_snoc (beginning plan) reached.0 t reached.1.allowed
          (subst (λ x. Allows plan x t) reached.1.there may);
      there = ap (λ x. after mean plan x t) reached.1.there ∙ sym (after_snoc (beginning plan) reached.0 t);
    },
    length-append reached.0 (t ∷ []) ∙ ap (λ k. k + 1) reached.2,
  )
