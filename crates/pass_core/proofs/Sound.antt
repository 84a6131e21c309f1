-- What every state of the core machine keeps.
use Rattle.std.proofs.Common.{◌≡◌, ◌<◌, ◌-◌, ◌+◌, ℕ, suc, true, false, List, [], ◌∷◌, map, length, replicate, refl, ap}
use Rattle.std.proofs.Common.{arith, ◌∙◌, sym, subst, Option, Some, None, Result, ⊎_elim, length-set, zero-add}
use Rattle.std.specs.Prelude.{slice_get, slice_index, slice_set}
use Rattle.std.specs.List.{AllByRecursion, range_with_len}
use mathlib.Core.Logic.{dite}
use native.Mathlib.Decide.{ℕ_discrete}
use Rattle.std.proofs.lemmas.List.{length-map, length-replicate, get_or-set_other, get_or-set_same, get_or-map}
use Rattle.std.proofs.lemmas.List.Elements.{All-from_recursion}
use Rattle.std.proofs.lemmas.List.FromFn.{get_or-range_with_len, length-range_with_len}
use Rattle.std.proofs.lemmas.Option.{slice_get_within, get_or_from_slice_get}
use Rattle.bp_faults.specs.declared.fault.Fault.{Fault}
use Rattle.serial_pass.specs.declared.plan.Plan.{Plan}
use Rattle.serial_pass.specs.declared.plan.PlanEdge.{PlanEdge}
use Rattle.pass_core.specs.declared.step.Step.{Step}
use Rattle.pass_core.specs.declared.step.Step.TheVariants.{Claim, Fetch, Fill, Subtract}
use Rattle.serial_pass.specs.Plans.{predecessors, HasNoCycle, IsPlan}
use Rattle.serial_pass.specs.Results.{NodeResult, all_outs, judged_result, node_result}
use Rattle.serial_pass.specs.Laws.{ResultsMeetTheirEquation}
use Rattle.serial_pass.specs.InEdges.{numbers_into}
use Rattle.pass_core.specs.CoreStates.{CoreState, from_of, to_of, IsMarked, IsUnmarked, result_in}
use Rattle.pass_core.specs.CoreStates.{IsFilled, edge_result, VisitWasMade, visit_result, Allows, after, beginning}
use Rattle.pass_core.specs.CoreStates.{after_all, AreAllowed, IsReached, entries}
use Rattle.bp_faults.proofs.Lists.{all_map, map-same, get_here, get_else}
use Rattle.pass_core.proofs.Marks.{marked_before, still_filled, get_blank, marks_more, fills_more, marks_none}
use Rattle.pass_core.proofs.Marks.{fills_none}
use Rattle.pass_core.specs.CoreKept.{IsSound, unmarked_count}
use Rattle.pass_core.proofs.Numbered.{into_sources, left_begins, left_lower, left_same}

map_map : {A B C : Type 0} (g : B → C) (f : A → B) (xs : List A) → map (λ x. g (f x)) xs ≡ map g (map f xs)
map_map g f [] = refl
map_map g f (x ∷ xs) = λ i. g (f x) ∷ map_map g f xs i

module _ {O : Type 0} (mean : ℕ → List O → Result O Fault) (plan : Plan) (is_plan : IsPlan plan)
    (free : HasNoCycle plan.edges) where
  pub source_inside : (e : ℕ) → e < length plan.edges → from_of plan e < plan.count
  source_inside e lt =
      let d : PlanEdge = record { from = record { 0 = 0 }; to = record { 0 = 0 } } in
      subst (λ x. x < plan.count) (sym (get_or-map (λ (e : PlanEdge). e.from.0) plan.edges e d 0 lt))
      (All-from_recursion (λ (e : PlanEdge). (e.from.0 < plan.count) × (e.to.0 < plan.count)) plan.edges is_plan.ends e
      d lt).0

  pub target_inside : (e : ℕ) → e < length plan.edges → to_of plan e < plan.count
  target_inside e lt =
      let d : PlanEdge = record { from = record { 0 = 0 }; to = record { 0 = 0 } } in
      subst (λ x. x < plan.count) (sym (get_or-map (λ (e : PlanEdge). e.to.0) plan.edges e d 0 lt))
      (All-from_recursion (λ (e : PlanEdge). (e.from.0 < plan.count) × (e.to.0 < plan.count)) plan.edges is_plan.ends e
      d lt).1

  module _ (s : CoreState O) (sound : IsSound mean plan s) where
    held_right : (e : ℕ) → IsMarked s.fetched e → edge_result s e ≡ node_result mean plan (from_of plan e)
    held_right e h = let t = sound.taken e h in ap result_in t.1 ∙ sound.right e t.0 t.1

    pub filled_inside : (e : ℕ) (r : Option (NodeResult O)) → slice_get s.filled e ≡ Some r → e < length plan.edges
    filled_inside e r h = subst (λ x. e < x) sound.filled_many (slice_get_within s.filled e r h)

    -- what a visit makes of what its in-edges hold is the node's result
    pub made_right : ResultsMeetTheirEquation O → (n : ℕ) → n < plan.count → VisitWasMade plan s n
        → visit_result mean plan s n ≡ node_result mean plan n
    made_right equation n lt was =
        let each : AllByRecursion (λ e. edge_result s e ≡ node_result mean plan (from_of plan e))
        (numbers_into 0 plan.edges n) =
        all_map (IsMarked s.fetched) (λ e. edge_result s e ≡ node_result mean plan (from_of plan e)) held_right
        (numbers_into 0 plan.edges n) was.1 in
        let all : map (edge_result s) (numbers_into 0 plan.edges n)
        ≡ map (node_result mean plan) (predecessors plan.edges n) =
        map-same (edge_result s) (λ e. node_result mean plan (from_of plan e)) (numbers_into 0 plan.edges n) each
        ∙ map_map (node_result mean plan) (from_of plan) (numbers_into 0 plan.edges n)
        ∙ ap (map (node_result mean plan))
        (into_sources (from_of plan) 0 plan.edges n (λ i. ap (from_of plan) (zero-add i))) in
        ap (λ (rs : List (NodeResult O)). judged_result (mean n) (all_outs rs)) all
        ∙ sym (equation mean plan n is_plan free lt)

    claim_keeps : (n : ℕ) → IsUnmarked s.claimed n → slice_get s.counters n ≡ Some 0 → IsSound mean plan (record {
      counters = s.counters;
      claimed = slice_set s.claimed n true;
      filled = s.filled;
      subtracted = s.subtracted;
      fetched = s.fetched;
    })
    claim_keeps n free_yet zero_left = record {
      counters_many = sound.counters_many;
      claimed_many = length-set s.claimed n true ∙ sound.claimed_many;
      filled_many = sound.filled_many;
      subtracted_many = sound.subtracted_many;
      fetched_many = sound.fetched_many;
      right = sound.right;
      taken = sound.taken;
      counted = sound.counted;
      awaited = λ m h. ⊎_elim
          (λ same. ap (unmarked_count plan.edges s.subtracted) same
          ∙ sym (sound.counted n (subst (λ x. n < x) sound.counters_many (slice_get_within s.counters n 0 zero_left)))
          ∙ get_or_from_slice_get s.counters n 0 0 zero_left)
          (λ before. sound.awaited m before) (marked_before s.claimed n m h);
    }

    fetch_keeps : (e : ℕ) → IsFilled s e → IsSound mean plan (record {
      counters = s.counters;
      claimed = s.claimed;
      filled = s.filled;
      subtracted = s.subtracted;
      fetched = slice_set s.fetched e true;
    })
    fetch_keeps e filled = record {
      counters_many = sound.counters_many;
      claimed_many = sound.claimed_many;
      filled_many = sound.filled_many;
      subtracted_many = sound.subtracted_many;
      fetched_many = length-set s.fetched e true ∙ sound.fetched_many;
      right = sound.right;
      taken =
          λ k h. ⊎_elim (λ same. subst (IsFilled s) (sym same) filled) (λ before. sound.taken k before)
          (marked_before s.fetched e k h);
      counted = sound.counted;
      awaited = sound.awaited;
    }

    right_at : (e : ℕ) (x : NodeResult O) → slice_get s.filled e ≡ Some None
        → x ≡ node_result mean plan (from_of plan e) → (k : ℕ) (r : NodeResult O)
        → slice_get (slice_set s.filled e (Some x)) k ≡ Some (Some r) → r ≡ node_result mean plan (from_of plan k)
    right_at e x none is k r h = dite (ℕ_discrete k e)
        (λ same. let here : Some (Some x) ≡ Some (Some r) =
        sym (get_here s.filled e (Some x) (slice_get_within s.filled e None none))
        ∙ ap (slice_get (slice_set s.filled e (Some x))) (sym same)
        ∙ h in
        let it : x ≡ r = cc in sym it ∙ is ∙ ap (λ y. node_result mean plan (from_of plan y)) (sym same))
        (λ other. sound.right k r (sym (get_else s.filled e k (Some x) other) ∙ h))

    fill_keeps : ResultsMeetTheirEquation O → (e : ℕ) → VisitWasMade plan s (from_of plan e)
        → slice_get s.filled e ≡ Some None
        → IsSound mean plan (record {
          counters = s.counters;
          claimed = s.claimed;
          filled = slice_set s.filled e (Some (visit_result mean plan s (from_of plan e)));
          subtracted = s.subtracted;
          fetched = s.fetched;
        })
    fill_keeps equation e was none = record {
      counters_many = sound.counters_many;
      claimed_many = sound.claimed_many;
      filled_many = length-set s.filled e (Some (visit_result mean plan s (from_of plan e))) ∙ sound.filled_many;
      subtracted_many = sound.subtracted_many;
      fetched_many = sound.fetched_many;
      right =
          right_at e (visit_result mean plan s (from_of plan e)) none
          (made_right equation (from_of plan e) (source_inside e (filled_inside e None none)) was);
      taken =
          λ k h. let t = sound.taken k h in
          (t.0, still_filled s.filled e k (visit_result mean plan s (from_of plan e)) t.0 none t.1);
      counted = sound.counted;
      awaited = sound.awaited;
    }

    lower : (e : ℕ) → e < length plan.edges → IsUnmarked s.subtracted e → (n : ℕ) → n < plan.count
        → slice_index (slice_set s.counters (to_of plan e) (slice_index s.counters (to_of plan e) - 1)) n
        ≡ unmarked_count plan.edges (slice_set s.subtracted e true) n
    lower e lt u n inside = dite (ℕ_discrete n (to_of plan e))
        (λ same. let here = get_or-set_same s.counters (to_of plan e) (slice_index s.counters (to_of plan e) - 1) 0
        (subst (λ x. to_of plan e < x) (sym sound.counters_many) (target_inside e lt)) in
        let before = sound.counted (to_of plan e) (target_inside e lt) in
        let less = left_lower plan.edges s.subtracted e (to_of plan e) lt u refl in
        subst (λ x. slice_index (slice_set s.counters (to_of plan e) (slice_index s.counters (to_of plan e) - 1)) x
        ≡ unmarked_count plan.edges (slice_set s.subtracted e true) x) (sym same) (omega arith))
        (λ other. get_or-set_other s.counters (to_of plan e) n (slice_index s.counters (to_of plan e) - 1) 0 other
        ∙ sound.counted n inside
        ∙ sym (left_same plan.edges s.subtracted e n (λ same. other (sym same))))

    still_none : (e : ℕ) → e < length plan.edges → IsUnmarked s.subtracted e → (n : ℕ)
        → unmarked_count plan.edges s.subtracted n ≡ 0 → unmarked_count plan.edges (slice_set s.subtracted e true) n ≡ 0
    still_none e lt u n none = dite (ℕ_discrete (to_of plan e) n)
        (λ same. let less = left_lower plan.edges s.subtracted e n lt u same in absurd (omega arith))
        (λ other. left_same plan.edges s.subtracted e n other ∙ none)

    subtract_keeps : (e : ℕ) → IsFilled s e → IsUnmarked s.subtracted e → IsSound mean plan (record {
      counters = slice_set s.counters (to_of plan e) (slice_index s.counters (to_of plan e) - 1);
      claimed = s.claimed;
      filled = s.filled;
      subtracted = slice_set s.subtracted e true;
      fetched = s.fetched;
    })
    subtract_keeps e filled u = record {
      counters_many =
          length-set s.counters (to_of plan e) (slice_index s.counters (to_of plan e) - 1) ∙ sound.counters_many;
      claimed_many = sound.claimed_many;
      filled_many = sound.filled_many;
      subtracted_many = length-set s.subtracted e true ∙ sound.subtracted_many;
      fetched_many = sound.fetched_many;
      right = sound.right;
      taken = sound.taken;
      counted = lower e (filled_inside e (Some filled.0) filled.1) u;
      awaited = λ n h. still_none e (filled_inside e (Some filled.0) filled.1) u n (sound.awaited n h);
    }

    pub step_keeps : ResultsMeetTheirEquation O → (t : Step) → Allows plan s t → IsSound mean plan (after mean plan s t)
    step_keeps equation (Claim n) h = claim_keeps n.0 h.0 h.1
    step_keeps equation (Fetch e) h = fetch_keeps e h.1
    step_keeps equation (Fill e) h = fill_keeps equation e h.0 h.1
    step_keeps equation (Subtract e) h = subtract_keeps e h.0 h.1

    -- an allowed step adds one entry
    pub step_adds : (t : Step) → Allows plan s t → entries (after mean plan s t) ≡ suc (entries s)
    step_adds (Claim n) h = let one = marks_more s.claimed n.0 h.0 in omega arith
    step_adds (Fetch e) h = let one = marks_more s.fetched e h.2 in omega arith
    step_adds (Fill e) h =
        let one = fills_more s.filled e (visit_result mean plan s (from_of plan e)) h.1 in omega arith
    step_adds (Subtract e) h = let one = marks_more s.subtracted e h.1 in omega arith

  pub begins_counted : (n : ℕ) → n < plan.count
      → slice_index (map (λ n. length (predecessors plan.edges n)) (range_with_len 0 plan.count)) n
      ≡ unmarked_count plan.edges (replicate (length plan.edges) false) n
  begins_counted n lt =
      get_or-map (λ n. length (predecessors plan.edges n)) (range_with_len 0 plan.count) n 0 0
      (omega (arith, length-range_with_len 0 plan.count))
      ∙ ap (λ m. length (predecessors plan.edges m)) (get_or-range_with_len 0 plan.count n 0 lt ∙ zero-add n)
      ∙ sym (left_begins plan.edges n)

  pub begins_sound : IsSound mean plan (beginning plan)
  begins_sound = record {
    counters_many =
        length-map (range_with_len 0 plan.count) (λ n. length (predecessors plan.edges n))
        ∙ length-range_with_len 0 plan.count;
    claimed_many = length-replicate plan.count false;
    filled_many = length-replicate (length plan.edges) None;
    subtracted_many = length-replicate (length plan.edges) false;
    fetched_many = length-replicate (length plan.edges) false;
    right = λ e r h. let no : None ≡ Some r = get_blank (length plan.edges) None e (Some r) h in cc;
    taken = λ e h. let no : false ≡ true = get_blank (length plan.edges) false e true h in absurd cc;
    counted = begins_counted;
    awaited = λ n h. let no : false ≡ true = get_blank plan.count false n true h in absurd cc;
  }

  pub begins_empty : entries {O = O} (beginning plan) ≡ 0
  begins_empty =
      let a = marks_none plan.count in
      let b = fills_none (NodeResult O) (length plan.edges) in
      let c = marks_none (length plan.edges) in
      omega arith

  all_keep : ResultsMeetTheirEquation O → (steps : List Step) (s : CoreState O) → IsSound mean plan s
      → AreAllowed mean plan s steps → IsSound mean plan (after_all mean plan s steps)
      × (entries (after_all mean plan s steps) ≡ length steps + entries s)
  all_keep equation [] s sound h = (sound, omega arith)
  all_keep equation (t ∷ ts) s sound h =
      let rest = all_keep equation ts (after mean plan s t) (step_keeps s sound equation t h.0) h.1 in
      let one = step_adds s sound t h.0 in
      (rest.0, omega (arith, rest.1))

  module _ (equation : ResultsMeetTheirEquation O) (steps : List Step) (s : CoreState O)
      (reached : IsReached mean plan steps s) where
    pub reached_sound : IsSound mean plan s
    reached_sound =
        subst (IsSound mean plan) (sym reached.there)
        (all_keep equation steps (beginning plan) begins_sound reached.allowed).0

    -- there is one entry for each step
    pub reached_entries : entries s ≡ length steps
    reached_entries =
        let all = (all_keep equation steps (beginning plan) begins_sound reached.allowed).1 in
        let none = begins_empty in
        ap entries reached.there ∙ omega arith
