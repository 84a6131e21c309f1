-- The core machine takes no step twice.
use Rattle.std.proofs.Common.{◌≡◌, ◌≢◌, ℕ, zero, suc, List, [], ◌∷◌, arith, ◌∙◌, sym, subst, Some, None, Result}
use Rattle.std.specs.List.{AllByRecursion, AllPairs}
use Rattle.std.proofs.lemmas.List.Elements.{All-from_recursion}
use Rattle.std.proofs.lemmas.Option.{slice_get_within}
use Rattle.bp_faults.specs.declared.fault.Fault.{Fault}
use Rattle.serial_pass.specs.declared.plan.Plan.{Plan}
use Rattle.pass_core.specs.declared.step.Step.{Step}
use Rattle.pass_core.specs.declared.step.Step.TheVariants.{Claim, Fetch, Fill, Subtract}
use Rattle.pass_core.specs.CoreStates.{CoreState, from_of, IsMarked, IsFilled, visit_result, Allows, after, AreAllowed}
use Rattle.bp_faults.proofs.Lists.{get_here}
use Rattle.pass_core.proofs.Marks.{now_marked, still_marked, still_filled, not_both}

pairs_cons : {X : Type 0} (R : X → X → Type 0) (x : X) (xs : List X) → AllByRecursion (R x) xs → AllPairs R xs
    → AllPairs R (x ∷ xs)
pairs_cons R x xs here there zero zero d lt inside = absurd (omega arith)
pairs_cons R x xs here there zero (suc j) d lt inside = All-from_recursion (R x) xs here j d (omega arith)
pairs_cons R x xs here there (suc i) zero d lt inside = absurd (omega arith)
pairs_cons R x xs here there (suc i) (suc j) d lt inside = there i j d (omega arith) (omega arith)

module _ {O : Type 0} (mean : ℕ → List O → Result O Fault) (plan : Plan) where
  -- what a step adds is there
  abbrev IsRecorded : CoreState O → Step → Type 0
  IsRecorded s (Claim n) = IsMarked s.claimed n.0
  IsRecorded s (Fetch e) = IsMarked s.fetched e
  IsRecorded s (Fill e) = IsFilled s e
  IsRecorded s (Subtract e) = IsMarked s.subtracted e

  never_again : (s : CoreState O) (t : Step) → IsRecorded s t → Allows plan s t → ⊥
  never_again s (Claim n) there may = not_both s.claimed n.0 there may.0
  never_again s (Fetch e) there may = not_both s.fetched e there may.2
  never_again s (Fill e) there may = let same : Some (Some there.0) ≡ Some None = sym there.1 ∙ may.1 in cc
  never_again s (Subtract e) there may = not_both s.subtracted e there may.1

  records : (s : CoreState O) (t : Step) → Allows plan s t → IsRecorded (after mean plan s t) t
  records s (Claim n) may = now_marked s.claimed n.0 may.0
  records s (Fetch e) may = now_marked s.fetched e may.2
  records s (Fill e) may = (
    visit_result mean plan s (from_of plan e),
    get_here s.filled e (Some (visit_result mean plan s (from_of plan e))) (slice_get_within s.filled e None may.1),
  )
  records s (Subtract e) may = now_marked s.subtracted e may.1

  claimed_stays : (s : CoreState O) (t : Step) (k : ℕ) → IsMarked s.claimed k → IsMarked (after mean plan s t).claimed k
  claimed_stays s (Claim n) k h = still_marked s.claimed n.0 k h
  claimed_stays s (Fetch e) k h = h
  claimed_stays s (Fill e) k h = h
  claimed_stays s (Subtract e) k h = h

  fetched_stays : (s : CoreState O) (t : Step) (k : ℕ) → IsMarked s.fetched k → IsMarked (after mean plan s t).fetched k
  fetched_stays s (Claim n) k h = h
  fetched_stays s (Fetch e) k h = still_marked s.fetched e k h
  fetched_stays s (Fill e) k h = h
  fetched_stays s (Subtract e) k h = h

  subtracted_stays : (s : CoreState O) (t : Step) (k : ℕ) → IsMarked s.subtracted k
      → IsMarked (after mean plan s t).subtracted k
  subtracted_stays s (Claim n) k h = h
  subtracted_stays s (Fetch e) k h = h
  subtracted_stays s (Fill e) k h = h
  subtracted_stays s (Subtract e) k h = still_marked s.subtracted e k h

  filled_stays : (s : CoreState O) (t : Step) (k : ℕ) → Allows plan s t → IsFilled s k
      → IsFilled (after mean plan s t) k
  filled_stays s (Claim n) k may h = h
  filled_stays s (Fetch e) k may h = h
  filled_stays s (Fill e) k may h =
      (h.0, still_filled s.filled e k (visit_result mean plan s (from_of plan e)) h.0 may.1 h.1)
  filled_stays s (Subtract e) k may h = h

  stays : (s : CoreState O) (t u : Step) → Allows plan s t → IsRecorded s u → IsRecorded (after mean plan s t) u
  stays s t (Claim n) may h = claimed_stays s t n.0 h
  stays s t (Fetch e) may h = fetched_stays s t e h
  stays s t (Fill e) may h = filled_stays s t e may h
  stays s t (Subtract e) may h = subtracted_stays s t e h

  not_later : (ts : List Step) (s : CoreState O) (u : Step) → IsRecorded s u → AreAllowed mean plan s ts
      → AllByRecursion (λ t. u ≢ t) ts
  not_later [] s u there h = tt
  not_later (t ∷ ts) s u there h = (
    (λ same. never_again s t (subst (IsRecorded s) same there) h.0),
    not_later ts (after mean plan s t) u (stays s t u h.0 there) h.1,
  )

  pub no_repeats : (ts : List Step) (s : CoreState O) → AreAllowed mean plan s ts → AllPairs (λ t u. t ≢ u) ts
  no_repeats [] s h = λ i j d lt inside. absurd (omega arith)
  no_repeats (t ∷ ts) s h =
      pairs_cons (λ t u. t ≢ u) t ts (not_later ts (after mean plan s t) t (records s t h.0) h.1)
      (no_repeats ts (after mean plan s t) h.1)
