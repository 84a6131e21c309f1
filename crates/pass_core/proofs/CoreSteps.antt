-- Each step keeps what a core keeps.
use Rattle.std.proofs.Common.{◌≡◌, ◌≢◌, ◌+◌, ◌-◌, ◌*◌, ◌<◌, ◌≤◌, ℕ, suc, true, Bool, List, map, length, refl, ap, arith}
use Rattle.std.proofs.Common.{◌∙◌, sym, subst, Option, Some, Result, ⊎_elim, length-set, zero-add}
use Rattle.std.specs.Prelude.{slice_get, slice_index, slice_set}
use Rattle.std.specs.List.{AllByRecursion}
use mathlib.Core.Logic.{dite}
use native.Mathlib.Decide.{ℕ_discrete}
use Rattle.std.proofs.lemmas.List.{get_or-set_other, get_or-set_same}
use Rattle.std.proofs.lemmas.Option.{slice_get_within}
use Rattle.bp_faults.specs.declared.fault.Fault.{Fault}
use Rattle.bp_faults.specs.declared.ids.NodeId.{NodeId}
use Rattle.serial_pass.specs.declared.plan.Plan.{Plan}
use Rattle.pass_core.specs.declared.published.Published.{Published}
use Rattle.pass_core.specs.declared.step.Step.{Step}
use Rattle.pass_core.specs.declared.step.Step.TheVariants.{Claim, Fetch, Fill, Subtract}
use Rattle.serial_pass.specs.Laws.{ResultsMeetTheirEquation}
use Rattle.serial_pass.specs.Results.{node_result}
use Rattle.pass_core.specs.Shown.{published_result}
use Rattle.serial_pass.specs.InEdges.{numbers_into}
use Rattle.pass_core.specs.CoreStates.{CoreState, from_of, to_of, IsMarked, VisitWasMade, visit_result}
use Rattle.pass_core.specs.CoreStates.{Allows, after}
use Rattle.pass_core.specs.CoreKept.{IsSound, IsCore, PublishesLast, unmarked_count, shown_in}
use Rattle.bp_faults.proofs.Lists.{get_here, get_else}
use Rattle.pass_core.proofs.Marks.{map_set, marks_most, fills_most, marked_before, still_marked, now_marked}
use Rattle.pass_core.proofs.Numbered.{all_into, each_into, left_none, none_left, left_lower, left_same}
use Rattle.pass_core.proofs.Reaching.{one_more_step}
use Rattle.pass_core.proofs.Sound.{step_keeps, step_adds, made_right, source_inside, target_inside}

module _ (plan : Plan) (marks : List Bool) (n : ℕ) where
  all_if_none : length marks ≡ length plan.edges → unmarked_count plan.edges marks n ≡ 0
      → AllByRecursion (IsMarked marks) (numbers_into 0 plan.edges n)
  all_if_none many none =
      all_into (IsMarked marks) 0 plan.edges n
      (λ e lt same. subst (IsMarked marks) (sym (zero-add e)) (left_none plan.edges marks n many none e lt same))

  none_if_all : AllByRecursion (IsMarked marks) (numbers_into 0 plan.edges n) → unmarked_count plan.edges marks n ≡ 0
  none_if_all all =
      none_left plan.edges marks n
      (λ e lt same. subst (IsMarked marks) (zero-add e) (each_into (IsMarked marks) 0 plan.edges n all e lt same))

module _ {O : Type 0} (mean : ℕ → List O → Result O Fault) (takes : ℕ → ℕ → Type 0) (plan : Plan) (starts : List ℕ)
    (s : CoreState O) (unfetched : List ℕ) (published : List (Option (Published O))) (steps : ℕ)
    (core : IsCore mean takes plan starts s unfetched published steps) where
  pub steps_most : steps ≤ plan.count + 3 * length plan.edges
  steps_most =
      let a = marks_most s.claimed in
      let b = fills_most s.filled in
      let c = marks_most s.subtracted in
      let d = marks_most s.fetched in
      omega (
        arith,
        core.counted,
        core.sound.claimed_many,
        core.sound.filled_many,
        core.sound.subtracted_many,
        core.sound.fetched_many,
      )

module _ {O : Type 0} (mean : ℕ → List O → Result O Fault) (takes : ℕ → ℕ → Type 0) (plan : Plan) (starts : List ℕ)
    (s : CoreState O) (unfetched : List ℕ) (published : List (Option (Published O))) (steps : ℕ)
    (core : IsCore mean takes plan starts s unfetched published steps) (equation : ResultsMeetTheirEquation O) where
  module _ (t : Step) (may : Allows plan s t) where
    pub after_sound : IsSound mean plan (after mean plan s t)
    after_sound = step_keeps mean plan core.is_plan core.free s core.sound equation t may

    after_core : (counts : List ℕ) (now : List (Option (Published O))) → length counts ≡ plan.count
        → ((n : ℕ) → n < plan.count → slice_index counts n ≡ unmarked_count plan.edges (after mean plan s t).fetched n)
        → length now ≡ plan.count → ((n : ℕ) (p : Published O) → slice_get now n ≡ Some (Some p)
        → (published_result p ≡ node_result mean plan n) × VisitWasMade plan (after mean plan s t) n)
        → ((n : ℕ) → VisitWasMade plan (after mean plan s t) n → (p : Published O) × (slice_get now n ≡ Some (Some p)))
        → IsCore mean takes plan starts (after mean plan s t) counts now (steps + 1)
    after_core counts now many are published_many right visited = record {
      is_plan = core.is_plan;
      free = core.free;
      takes_plan = core.takes_plan;
      are_starts = core.are_starts;
      reached = one_more_step mean plan s t steps core.reached may;
      sound = after_sound;
      unfetched_many = many;
      unfetched_are = are;
      published_many = published_many;
      right = right;
      visited = visited;
      counted = let one = step_adds mean plan core.is_plan core.free s core.sound t may in omega (arith, core.counted);
    }

    -- where the visit of a node is made by the step, what is published of it is its result
    module _ (n : ℕ) (inside : n < plan.count) (was : VisitWasMade plan (after mean plan s t) n) (p : Published O)
        (is : published_result p ≡ visit_result mean plan (after mean plan s t) n) where
      right_now : published_result p ≡ node_result mean plan n
      right_now =
          is ∙ made_right mean plan core.is_plan core.free (after mean plan s t) after_sound equation n inside was

      set_right : ((m : ℕ) → VisitWasMade plan s m → VisitWasMade plan (after mean plan s t) m)
          → (m : ℕ) (q : Published O) → slice_get (slice_set published n (Some p)) m ≡ Some (Some q)
          → (published_result q ≡ node_result mean plan m) × VisitWasMade plan (after mean plan s t) m
      set_right stays m q h = dite (ℕ_discrete m n)
          (λ same. let here : Some (Some p) ≡ Some (Some q) =
          sym (get_here published n (Some p) (subst (λ x. n < x) (sym core.published_many) inside))
          ∙ ap (slice_get (slice_set published n (Some p))) (sym same)
          ∙ h in
          let it : p ≡ q = cc in (
            ap published_result (sym it) ∙ right_now ∙ ap (node_result mean plan) (sym same),
            subst (VisitWasMade plan (after mean plan s t)) (sym same) was,
          ))
          (λ other. let old = core.right m q (sym (get_else published n m (Some p) other) ∙ h) in
          (old.0, stays m old.1))

      set_visited : ((m : ℕ) → m ≢ n → VisitWasMade plan (after mean plan s t) m → VisitWasMade plan s m) → (m : ℕ)
          → VisitWasMade plan (after mean plan s t) m
          → (q : Published O) × (slice_get (slice_set published n (Some p)) m ≡ Some (Some q))
      set_visited before m h = dite (ℕ_discrete m n)
          (λ same. (
            p,
            ap (slice_get (slice_set published n (Some p))) same
                ∙ get_here published n (Some p) (subst (λ x. n < x) (sym core.published_many) inside),
          ))
          (λ other. let old = core.visited m (before m other h) in
          (old.0, get_else published n m (Some p) other ∙ old.1))

  pub fill_core : (e : ℕ) (may : Allows plan s (Fill e))
      → IsCore mean takes plan starts (after mean plan s (Fill e)) unfetched published (steps + 1)
  fill_core e may =
      after_core (Fill e) may unfetched published core.unfetched_many core.unfetched_are core.published_many core.right
      core.visited

  -- what is copied into an edge is what the visit of its source made
  pub filled_is : (filled : List (Option (Published O))) (e : ℕ) (q : Published O) → e < length plan.edges
      → VisitWasMade plan s (from_of plan e) → published_result q ≡ node_result mean plan (from_of plan e)
      → map shown_in (slice_set filled e (Some q))
      ≡ slice_set (map shown_in filled) e (Some (visit_result mean plan s (from_of plan e)))
  filled_is filled e q lt was is =
      map_set shown_in filled e (Some q)
      ∙ ap (λ r. slice_set (map shown_in filled) e (Some r)) (is ∙ sym (made_right mean plan core.is_plan core.free s
      core.sound equation (from_of plan e) (source_inside mean plan core.is_plan core.free e lt) was))

  pub subtract_core : (e : ℕ) (may : Allows plan s (Subtract e))
      → IsCore mean takes plan starts (after mean plan s (Subtract e)) unfetched published (steps + 1)
  subtract_core e may =
      after_core (Subtract e) may unfetched published core.unfetched_many core.unfetched_are core.published_many
      core.right core.visited

  -- the target of an edge that isn't subtracted waits for it
  pub subtract_some : (e : ℕ) → Allows plan s (Subtract e) → 1 ≤ slice_index s.counters (to_of plan e)
  subtract_some e may =
      let lt : e < length plan.edges =
      subst (λ x. e < x) core.sound.subtracted_many (slice_get_within s.subtracted e _ may.1) in
      let are = core.sound.counted (to_of plan e) (target_inside mean plan core.is_plan core.free e lt) in
      let lower = left_lower plan.edges s.subtracted e (to_of plan e) lt may.1 refl in omega arith

  module _ (n : NodeId) (may : Allows plan s (Claim n)) (inside : n.0 < plan.count) where
    claim_stays : (m : ℕ) → VisitWasMade plan s m → VisitWasMade plan (after mean plan s (Claim n)) m
    claim_stays m was = (still_marked s.claimed n.0 m was.0, was.1)

    claim_before : (m : ℕ) → m ≢ n.0 → VisitWasMade plan (after mean plan s (Claim n)) m → VisitWasMade plan s m
    claim_before m other was =
        (⊎_elim (λ same. absurd (other same)) (λ h. h) (marked_before s.claimed n.0 m was.0), was.1)

    pub claim_last : slice_index unfetched n.0 ≡ 0 → VisitWasMade plan (after mean plan s (Claim n)) n.0
    claim_last none = (
      now_marked s.claimed n.0 may.0,
      all_if_none plan s.fetched n.0 core.sound.fetched_many (sym (core.unfetched_are n.0 inside) ∙ none),
    )

    pub claim_core : (now : List (Option (Published O)))
        → PublishesLast (slice_index unfetched n.0 ≡ 0) n.0 (visit_result mean plan s n.0) published now
        → IsCore mean takes plan starts (after mean plan s (Claim n)) unfetched now (steps + 1)
    claim_core now publishes = dite (ℕ_discrete (slice_index unfetched n.0) 0)
        (λ none. let t = publishes.0 none in
        subst (λ now. IsCore mean takes plan starts (after mean plan s (Claim n)) unfetched now (steps + 1)) (sym t.2)
        (after_core (Claim n) may unfetched (slice_set published n.0 (Some t.0)) core.unfetched_many core.unfetched_are
        (length-set published n.0 (Some t.0) ∙ core.published_many)
        (set_right (Claim n) may n.0 inside (claim_last none) t.0 t.1 claim_stays) (set_visited (Claim n) may n.0 inside
        (claim_last none) t.0 t.1 claim_before)))
        (λ some. subst (λ now. IsCore mean takes plan starts (after mean plan s (Claim n)) unfetched now (steps + 1))
        (sym (publishes.1 some))
        (after_core (Claim n) may unfetched published core.unfetched_many core.unfetched_are core.published_many
        (λ m q h. let old = core.right m q h in (old.0, claim_stays m old.1))
        (λ m was.
        core.visited m (claim_before m (λ same. some (core.unfetched_are n.0 inside ∙ none_if_all plan s.fetched n.0
        (subst (λ x. AllByRecursion (IsMarked s.fetched) (numbers_into 0 plan.edges x)) same was.1))) was))))

  module _ (e : ℕ) (may : Allows plan s (Fetch e)) where
    edge_inside : e < length plan.edges
    edge_inside = subst (λ x. e < x) core.sound.fetched_many (slice_get_within s.fetched e _ may.2)

    node_inside : to_of plan e < plan.count
    node_inside = target_inside mean plan core.is_plan core.free e edge_inside

    lower_to : unmarked_count plan.edges s.fetched (to_of plan e)
        ≡ suc (unmarked_count plan.edges (slice_set s.fetched e true) (to_of plan e))
    lower_to = left_lower plan.edges s.fetched e (to_of plan e) edge_inside may.2 refl

    -- there is an in-edge left to fetch
    pub fetch_some : 0 < slice_index unfetched (to_of plan e)
    fetch_some = let are = core.unfetched_are (to_of plan e) node_inside in let lower = lower_to in omega arith

    same_else : (m : ℕ) → m ≢ to_of plan e
        → unmarked_count plan.edges (slice_set s.fetched e true) m ≡ unmarked_count plan.edges s.fetched m
    same_else m other = left_same plan.edges s.fetched e m (λ same. other (sym same))

    counts_are : (m : ℕ) → m < plan.count
        → slice_index (slice_set unfetched (to_of plan e) (slice_index unfetched (to_of plan e) - 1)) m
        ≡ unmarked_count plan.edges (slice_set s.fetched e true) m
    counts_are m lt = dite (ℕ_discrete m (to_of plan e))
        (λ same. let here = get_or-set_same unfetched (to_of plan e) (slice_index unfetched (to_of plan e) - 1) 0
        (subst (λ x. to_of plan e < x) (sym core.unfetched_many) node_inside) in
        let are = core.unfetched_are (to_of plan e) node_inside in let lower = lower_to in
        subst (λ x. slice_index (slice_set unfetched (to_of plan e) (slice_index unfetched (to_of plan e) - 1)) x
        ≡ unmarked_count plan.edges (slice_set s.fetched e true) x) (sym same) (omega arith))
        (λ other. get_or-set_other unfetched (to_of plan e) m (slice_index unfetched (to_of plan e) - 1) 0 other
        ∙ core.unfetched_are m lt
        ∙ sym (same_else m other))

    fetch_stays : (m : ℕ) → VisitWasMade plan s m → VisitWasMade plan (after mean plan s (Fetch e)) m
    fetch_stays m was = dite (ℕ_discrete m (to_of plan e))
        (λ same. let none = none_if_all plan s.fetched m was.1 in
        let lower = ap (unmarked_count plan.edges s.fetched) same ∙ lower_to in
        absurd (omega arith))
        (λ other. (
          was.0,
          all_if_none plan (slice_set s.fetched e true) m (length-set s.fetched e true ∙ core.sound.fetched_many)
              (same_else m other ∙ none_if_all plan s.fetched m was.1),
        ))

    fetch_before : (m : ℕ) → m ≢ to_of plan e → VisitWasMade plan (after mean plan s (Fetch e)) m
        → VisitWasMade plan s m
    fetch_before m other was = (
      was.0,
      all_if_none plan s.fetched m core.sound.fetched_many
          (sym (same_else m other) ∙ none_if_all plan (slice_set s.fetched e true) m was.1),
    )

    pub fetch_last : slice_index unfetched (to_of plan e) ≡ 1
        → VisitWasMade plan (after mean plan s (Fetch e)) (to_of plan e)
    fetch_last one = (
      may.0,
      all_if_none plan (slice_set s.fetched e true) (to_of plan e)
          (length-set s.fetched e true ∙ core.sound.fetched_many)
          (let are = core.unfetched_are (to_of plan e) node_inside in let lower = lower_to in omega arith),
    )

    counts_many : length (slice_set unfetched (to_of plan e) (slice_index unfetched (to_of plan e) - 1)) ≡ plan.count
    counts_many = length-set unfetched (to_of plan e) (slice_index unfetched (to_of plan e) - 1) ∙ core.unfetched_many

    pub fetch_core : (now : List (Option (Published O))) → PublishesLast (slice_index unfetched (to_of plan e) ≡ 1)
        (to_of plan e) (visit_result mean plan s (to_of plan e)) published now
        → IsCore mean takes plan starts (after mean plan s (Fetch e))
        (slice_set unfetched (to_of plan e) (slice_index unfetched (to_of plan e) - 1)) now (steps + 1)
    fetch_core now publishes = dite (ℕ_discrete (slice_index unfetched (to_of plan e)) 1)
        (λ one. let t = publishes.0 one in
        subst (λ now. IsCore mean takes plan starts (after mean plan s (Fetch e))
        (slice_set unfetched (to_of plan e) (slice_index unfetched (to_of plan e) - 1)) now (steps + 1)) (sym t.2)
        (after_core (Fetch e) may (slice_set unfetched (to_of plan e) (slice_index unfetched (to_of plan e) - 1))
        (slice_set published (to_of plan e) (Some t.0)) counts_many counts_are
        (length-set published (to_of plan e) (Some t.0) ∙ core.published_many)
        (set_right (Fetch e) may (to_of plan e) node_inside (fetch_last one) t.0 t.1 fetch_stays) (set_visited (Fetch e)
        may (to_of plan e) node_inside (fetch_last one) t.0 t.1 fetch_before)))
        (λ more. subst (λ now. IsCore mean takes plan starts (after mean plan s (Fetch e)) (slice_set unfetched
        (to_of plan e) (slice_index unfetched (to_of plan e) - 1)) now (steps + 1)) (sym (publishes.1 more))
        (after_core (Fetch e) may (slice_set unfetched (to_of plan e) (slice_index unfetched (to_of plan e) - 1))
        published counts_many counts_are core.published_many
        (λ m q h. let old = core.right m q h in (old.0, fetch_stays m old.1))
        (λ m was. core.visited m
        (fetch_before m (λ same. let none = none_if_all plan (slice_set s.fetched e true) (to_of plan e) (subst (λ x.
        AllByRecursion (IsMarked (slice_set s.fetched e true)) (numbers_into 0 plan.edges x)) same was.1) in
        let are = core.unfetched_are (to_of plan e) node_inside in let lower = lower_to in more (omega arith)) was))))
