-- The core machine is finished, or some step is allowed.
use Rattle.std.proofs.Common.{◌≡◌, ◌<◌, ◌+◌, ◌*◌, ℕ, zero, suc, List, [], ◌∷◌, map, length, refl, ap, arith, ◌∙◌, sym}
use Rattle.std.proofs.Common.{subst, Some, Result, ◌⊎◌, inl, inr, ⊎_elim, zero-add}
use Rattle.std.specs.List.{AllByRecursion, range_with_len}
use Rattle.std.proofs.Math.Decide.{dec_lt}
use mathlib.Core.Logic.{dite}
use native.Mathlib.Decide.{ℕ_discrete}
use Rattle.std.proofs.lemmas.List.Elements.{recursion_from_All}
use Rattle.std.proofs.lemmas.List.FromFn.{get_or-range_with_len, length-range_with_len}
use Rattle.std.proofs.lemmas.Option.{slice_get-get_or}
use Rattle.bp_faults.specs.declared.fault.Fault.{Fault}
use Rattle.serial_pass.specs.declared.plan.Plan.{Plan}
use Rattle.pass_core.specs.declared.step.Step.{Step}
use Rattle.pass_core.specs.declared.step.Step.TheVariants.{Claim, Fetch, Fill, Subtract}
use Rattle.serial_pass.specs.Plans.{predecessors, HasNoCycle, IsPlan}
use Rattle.serial_pass.specs.Results.{node_result}
use Rattle.serial_pass.specs.Laws.{PredecessorsAreNodes, PredecessorsAreLess, ResultsMeetTheirEquation}
use Rattle.serial_pass.specs.InEdges.{numbers_into}
use Rattle.pass_core.specs.CoreStates.{CoreState, from_of, to_of, IsMarked, IsFilled, VisitWasMade}
use Rattle.pass_core.specs.CoreStates.{visit_result, Allows, IsFinished, entries}
use Rattle.bp_faults.proofs.Lists.{all_map, both, map-same}
use Rattle.pass_core.proofs.Marks.{marked_or, filled_or, marks_most, marks_full, full_marks, fills_most, fills_full}
use Rattle.pass_core.proofs.Marks.{full_fills}
use Rattle.pass_core.proofs.Numbered.{into_sources, all_into, each_into, left_none, none_left}
use Rattle.pass_core.specs.CoreKept.{IsSound}
use Rattle.pass_core.proofs.Sound.{source_inside, target_inside, made_right}

-- something holds of each number below a bound, or there is something else
each_or : {A : Type 0} (P : ℕ → Type 0) (k : ℕ) → ((e : ℕ) → e < k → A ⊎ P e) → A ⊎ ((e : ℕ) → e < k → P e)
each_or P zero h = inr (λ e lt. absurd (omega arith))
each_or P (suc k) h =
    ⊎_elim inl
    (λ last. ⊎_elim inl
    (λ others. inr (λ e lt. dite (ℕ_discrete e k) (λ same. subst P (sym same) last)
    (λ other. others e (let ne = other in dite (dec_lt e k) (λ less. less) (λ more. absurd (ne (omega arith)))))))
    (each_or P k (λ e lt. h e (omega arith)))) (h k (omega arith))

all_under : (P : ℕ → Type 0) (f : ℕ → ℕ) (ks : List ℕ) → AllByRecursion P (map f ks) → AllByRecursion (λ k. P (f k)) ks
all_under P f [] h = tt
all_under P f (k ∷ ks) h = (h.0, all_under P f ks h.1)

module _ (plan : Plan) (is_plan : IsPlan plan) (free : HasNoCycle plan.edges) (nodes : PredecessorsAreNodes)
    (less : PredecessorsAreLess) (P : ℕ → Type 0)
    (step : (n : ℕ) → n < plan.count → AllByRecursion P (predecessors plan.edges n) → P n) where
  by_rank : (fuel n : ℕ) → n < plan.count → free.rank n < fuel → P n
  by_rank zero n lt r = absurd (omega arith)
  by_rank (suc k) n lt r =
      step n lt (all_map (λ m. (m < plan.count) × (free.rank m < free.rank n)) P
      (λ m h. by_rank k m h.0 (let a = h.1 in omega arith)) (predecessors plan.edges n)
      (both (λ m. m < plan.count) (λ m. free.rank m < free.rank n) (predecessors plan.edges n)
      (nodes plan.count plan.edges n is_plan.ends) (less free.rank plan.edges n free.rises)))

  -- what holds of a node where it holds of its predecessors holds of every node
  by_predecessors : (n : ℕ) → n < plan.count → P n
  by_predecessors n lt = by_rank (suc (free.rank n)) n lt (omega arith)

module _ {O : Type 0} (mean : ℕ → List O → Result O Fault) (plan : Plan) (is_plan : IsPlan plan)
    (free : HasNoCycle plan.edges) (s : CoreState O) (sound : IsSound mean plan s) where
  abbrev pub MayGo : Type 0
  MayGo = (t : Step) × Allows plan s t

  fetched_or : (e : ℕ) → e < length plan.edges → IsMarked s.claimed (to_of plan e) → IsFilled s e
      → MayGo ⊎ (IsMarked s.fetched e)
  fetched_or e lt claimed filled =
      ⊎_elim (λ there. inr there) (λ not_yet. inl (Fetch e, (claimed, filled, not_yet)))
      (marked_or s.fetched e (subst (λ x. e < x) (sym sound.fetched_many) lt))

  subtracted_or : (e : ℕ) → e < length plan.edges → IsFilled s e → MayGo ⊎ (IsFilled s e × IsMarked s.subtracted e)
  subtracted_or e lt filled =
      ⊎_elim (λ there. inr (filled, there)) (λ not_yet. inl (Subtract e, (filled, not_yet)))
      (marked_or s.subtracted e (subst (λ x. e < x) (sym sound.subtracted_many) lt))

  -- an edge whose source's visit was made is filled and subtracted
  passed_or : (e : ℕ) → e < length plan.edges → VisitWasMade plan s (from_of plan e)
      → MayGo ⊎ (IsFilled s e × IsMarked s.subtracted e)
  passed_or e lt was =
      ⊎_elim (λ there. subtracted_or e lt there) (λ not_yet. inl (Fill e, (was, not_yet)))
      (filled_or s.filled e (subst (λ x. e < x) (sym sound.filled_many) lt))

  module _ (n : ℕ) (inside : n < plan.count) where
    claimed_or : ((e : ℕ) → e < length plan.edges → to_of plan e ≡ n → IsFilled s e × IsMarked s.subtracted e)
        → MayGo ⊎ (IsMarked s.claimed n)
    claimed_or passed =
        let none = none_left plan.edges s.subtracted n (λ e lt same. (passed e lt same).1) in
        let there : n < length s.counters = subst (λ x. n < x) (sym sound.counters_many) inside in
        ⊎_elim (λ there. inr there)
        (λ not_yet. inl (
          Claim (record { 0 = n }),
          (not_yet, slice_get-get_or s.counters n 0 there ∙ ap Some (sound.counted n inside ∙ none)),
        ))
        (marked_or s.claimed n (subst (λ x. n < x) (sym sound.claimed_many) inside))

    visited_if : ((e : ℕ) → e < length plan.edges → to_of plan e ≡ n → IsFilled s e × IsMarked s.subtracted e)
        → IsMarked s.claimed n → MayGo ⊎ VisitWasMade plan s n
    visited_if passed claimed =
        ⊎_elim inl (λ fetched. inr (
          claimed,
          all_into (IsMarked s.fetched) 0 plan.edges n
              (λ e lt same. subst (IsMarked s.fetched) (sym (zero-add e)) (fetched e lt same)),
        ))
        (each_or (λ e. to_of plan e ≡ n → IsMarked s.fetched e) (length plan.edges)
        (λ e lt. dite (ℕ_discrete (to_of plan e) n)
        (λ same. ⊎_elim inl (λ h. inr (λ _. h))
        (fetched_or e lt (subst (IsMarked s.claimed) (sym same) claimed) (passed e lt same).0))
        (λ other. inr (λ same. absurd (other same)))))

    visited_or : AllByRecursion (λ m. MayGo ⊎ VisitWasMade plan s m) (predecessors plan.edges n)
        → MayGo ⊎ VisitWasMade plan s n
    visited_or before =
        let sources : AllByRecursion (λ e. MayGo ⊎ VisitWasMade plan s (from_of plan e)) (numbers_into 0 plan.edges n) =
        all_under (λ m. MayGo ⊎ VisitWasMade plan s m) (from_of plan) (numbers_into 0 plan.edges n)
        (subst (AllByRecursion (λ m. MayGo ⊎ VisitWasMade plan s m))
        (sym (into_sources (from_of plan) 0 plan.edges n (λ i. ap (from_of plan) (zero-add i)))) before) in
        ⊎_elim inl (λ passed. ⊎_elim inl (λ claimed. visited_if passed claimed) (claimed_or passed))
        (each_or (λ e. to_of plan e ≡ n → IsFilled s e × IsMarked s.subtracted e) (length plan.edges)
        (λ e lt. dite (ℕ_discrete (to_of plan e) n)
        (λ same. ⊎_elim inl (λ was. ⊎_elim inl (λ h. inr (λ _. h)) (passed_or e lt was))
        (subst (λ k. MayGo ⊎ VisitWasMade plan s (from_of plan k)) (zero-add e)
        (each_into (λ k. MayGo ⊎ VisitWasMade plan s (from_of plan k)) 0 plan.edges n sources e lt same)))
        (λ other. inr (λ same. absurd (other same)))))

  edge_or : ((n : ℕ) → n < plan.count → VisitWasMade plan s n) → (e : ℕ) → e < length plan.edges
      → MayGo ⊎ (IsFilled s e × IsMarked s.subtracted e × IsMarked s.fetched e)
  edge_or visited e lt =
      ⊎_elim inl
      (λ passed. ⊎_elim inl (λ fetched. inr (passed.0, passed.1, fetched))
      (fetched_or e lt (visited (to_of plan e) (target_inside mean plan is_plan free e lt)).0 passed.0))
      (passed_or e lt (visited (from_of plan e) (source_inside mean plan is_plan free e lt)))

  finished_if : ((n : ℕ) → n < plan.count → VisitWasMade plan s n)
      → ((e : ℕ) → e < length plan.edges → IsFilled s e × IsMarked s.subtracted e × IsMarked s.fetched e)
      → IsFinished plan s
  finished_if visited edges = record {
    visited = visited;
    filled = λ e lt. (edges e lt).0;
    subtracted = λ e lt. (edges e lt).1;
    fetched = λ e lt. (edges e lt).2;
  }

  goes_or_finished : PredecessorsAreNodes → PredecessorsAreLess → MayGo ⊎ IsFinished plan s
  goes_or_finished nodes less =
      ⊎_elim inl
      (λ visited. ⊎_elim inl (λ edges. inr (finished_if visited edges)) (each_or (λ e. IsFilled s e
      × IsMarked s.subtracted e × IsMarked s.fetched e) (length plan.edges) (edge_or visited)))
      (each_or (VisitWasMade plan s) plan.count
      (by_predecessors plan is_plan free nodes less (λ n. MayGo ⊎ VisitWasMade plan s n) visited_or))

  pub never_stuck : PredecessorsAreNodes → PredecessorsAreLess → (IsFinished plan s → ⊥) → MayGo
  never_stuck nodes less unfinished =
      ⊎_elim (λ go. go) (λ done. absurd (unfinished done)) (goes_or_finished nodes less)

  pub entries_when_finished : IsFinished plan s → entries s ≡ plan.count + 3 * length plan.edges
  entries_when_finished done =
      let a = full_marks s.claimed (λ n lt. (done.visited n (subst (λ x. n < x) sound.claimed_many lt)).0) in
      let b = full_fills s.filled (λ e lt. done.filled e (subst (λ x. e < x) sound.filled_many lt)) in
      let c = full_marks s.subtracted (λ e lt. done.subtracted e (subst (λ x. e < x) sound.subtracted_many lt)) in
      let d = full_marks s.fetched (λ e lt. done.fetched e (subst (λ x. e < x) sound.fetched_many lt)) in
      omega (arith, sound.claimed_many, sound.filled_many, sound.subtracted_many, sound.fetched_many)

  pub finished_with_entries : entries s ≡ plan.count + 3 * length plan.edges → IsFinished plan s
  finished_with_entries many =
      let a = marks_most s.claimed in
      let b = fills_most s.filled in
      let c = marks_most s.subtracted in
      let d = marks_most s.fetched in
      let fetched = marks_full s.fetched
      (omega (arith, sound.claimed_many, sound.filled_many, sound.subtracted_many, sound.fetched_many)) in
      let claimed = marks_full s.claimed
      (omega (arith, sound.claimed_many, sound.filled_many, sound.subtracted_many, sound.fetched_many)) in
      let filled = fills_full s.filled
      (omega (arith, sound.claimed_many, sound.filled_many, sound.subtracted_many, sound.fetched_many)) in
      let subtracted = marks_full s.subtracted
      (omega (arith, sound.claimed_many, sound.filled_many, sound.subtracted_many, sound.fetched_many)) in
      let all_fetched : (e : ℕ) → e < length plan.edges → IsMarked s.fetched e =
      λ e lt. fetched e (subst (λ x. e < x) (sym sound.fetched_many) lt) in
      record {
        visited =
            λ n lt. (
              claimed n (subst (λ x. n < x) (sym sound.claimed_many) lt),
              all_into (IsMarked s.fetched) 0 plan.edges n
                  (λ e inside same. subst (IsMarked s.fetched) (sym (zero-add e)) (all_fetched e inside)),
            );
        filled = λ e lt. filled e (subst (λ x. e < x) (sym sound.filled_many) lt);
        subtracted = λ e lt. subtracted e (subst (λ x. e < x) (sym sound.subtracted_many) lt);
        fetched = all_fetched;
      }

  -- the in-edges of a claimed node are subtracted
  pub claimed_late : (e : ℕ) → e < length plan.edges → IsMarked s.claimed (to_of plan e) → IsMarked s.subtracted e
  claimed_late e lt claimed =
      left_none plan.edges s.subtracted (to_of plan e) sound.subtracted_many
      (sound.awaited (to_of plan e) claimed) e lt refl

  pub results_when_finished : ResultsMeetTheirEquation O → IsFinished plan s
      → map (visit_result mean plan s) (range_with_len 0 plan.count)
      ≡ map (node_result mean plan) (range_with_len 0 plan.count)
  results_when_finished equation done =
      map-same (visit_result mean plan s) (node_result mean plan) (range_with_len 0 plan.count)
      (recursion_from_All (λ n. visit_result mean plan s n ≡ node_result mean plan n) (range_with_len 0 plan.count)
      (λ k d lt.
      let inside : k < plan.count = omega (arith, length-range_with_len 0 plan.count) in
      let same = get_or-range_with_len 0 plan.count k d inside ∙ zero-add k in
      subst (λ n. visit_result mean plan s n ≡ node_result mean plan n) (sym same)
      (made_right mean plan is_plan free s sound equation k inside (done.visited k inside))))
