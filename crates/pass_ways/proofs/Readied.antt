-- Lists of nodes of which each is ready after those before it.
use Rattle.std.proofs.Common.{◌<◌, ℕ, zero, suc, List, [], ◌∷◌, ◌++◌, length, take, sym, subst, arith, append_assoc}
use Rattle.std.specs.Prelude.{slice_index}
use Rattle.std.proofs.lemmas.List.{append-nil}
use Rattle.serial_pass.specs.declared.plan.Plan.{Plan}
use Rattle.pass_core.specs.OrderOutcomes.{IsReadyAfter}
use Rattle.pass_ways.specs.Stretches.{AreReady}

module _ (plan : Plan) where
  pub ready_append : (before xs ys : List ℕ) → AreReady plan before xs → AreReady plan (before ++ xs) ys → AreReady
      plan before (xs ++ ys)
  ready_append before [] ys h k = subst (λ l. AreReady plan l ys) (append-nil before) k
  ready_append before (x ∷ xs) ys h k = (
    h.0,
    ready_append (before ++ x ∷ []) xs ys h.1 (subst (λ l. AreReady plan l ys) (sym (append_assoc before (x ∷
        []) xs)) k),
  )

  -- from and to the form by indices
  pub ready_at : (before xs : List ℕ) → AreReady plan before xs → (k : ℕ) → k < length xs → IsReadyAfter plan (before
      ++ take k xs) (slice_index xs k)
  ready_at before [] h k lt = absurd (omega arith)
  ready_at before (x ∷ xs) h zero lt = subst (λ l. IsReadyAfter plan l x) (sym (append-nil before)) h.0
  ready_at before (x ∷ xs) h (suc k) lt =
      subst (λ l. IsReadyAfter plan l (slice_index xs k)) (append_assoc before (x ∷ []) (take k xs))
      (ready_at (before ++ x ∷ []) xs h.1 k (omega arith))

  pub ready_from : (before xs : List ℕ) → ((k : ℕ) → k < length xs → IsReadyAfter plan (before ++ take k xs)
      (slice_index xs k)) → AreReady plan before xs
  ready_from before [] f = tt
  ready_from before (x ∷ xs) f = (
    subst (λ l. IsReadyAfter plan l x) (append-nil before) (f 0 (omega arith)),
    ready_from (before ++ x ∷ []) xs
        (λ k lt. subst (λ l. IsReadyAfter plan l (slice_index xs k)) (sym (append_assoc before (x ∷ []) (take k xs)))
        (f (suc k) (omega arith))),
  )
