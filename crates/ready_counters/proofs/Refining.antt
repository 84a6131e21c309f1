-- Each step on a board is the core step of its kind, or leaves the core as it was.
use Rattle.std.proofs.Common.{◌≡◌, ◌≢◌, ◌+◌, ◌-◌, ◌<◌, ◌≤◌, ◌==◌, ◌++◌, ℕ, zero, suc, List, [], ◌∷◌, length, map, set}
use Rattle.std.proofs.Common.{replicate, get_or-set_same, get_or-set_other, refl, ap, arith, ◌∙◌, sym, subst, Bool}
use Rattle.std.proofs.Common.{true, false, Option, Some, None, Result, eq-eqb, ne_eqb}
use Rattle.std.specs.Prelude.{slice_index, slice_get}
use Rattle.std.specs.List.{range_with_len}
use Rattle.std.specs.declared.sync.Arc.{Arc}
use mathlib.Core.Option.{Option as Maybe, some}
use mathlib.Core.Logic.{dite}
use native.Mathlib.Decide.{ℕ_discrete}
use lib.ListN.{get_elem?}
use Rattle.atomic_table.specs.Table.{State}
use Rattle.atomic_table.proofs.Lists.{set_else}
use Rattle.bp_faults.specs.declared.fault.Fault.{Fault}
use Rattle.serial_pass.specs.declared.plan.Plan.{Plan}
use Rattle.serial_pass.specs.declared.plan.PlanEdge.{PlanEdge}
use Rattle.pass_core.specs.declared.published.Published.{Published}
use Rattle.pass_core.specs.declared.step.Step.TheVariants.{Claim, Fetch, Fill, Subtract}
use Rattle.pass_core.specs.CoreStates.{CoreState, Allows, after, IsMarked, VisitWasMade, IsFilled, IsFinished}
use Rattle.pass_core.specs.CoreStates.{edge_result, visit_result, beginning}
use Rattle.serial_pass.specs.Laws.{ResultsMeetTheirEquation}
use Rattle.serial_pass.specs.Plans.{IsPlan, HasNoCycle, predecessors}
use Rattle.serial_pass.specs.Results.{NodeResult, node_result, judged_result, all_outs}
use Rattle.ready_counters.specs.declared.view.View.{View}
use Rattle.ready_counters.specs.Views.{nothing, one, all_of_it, lighter, together, times, with_claim, with_ticket}
use Rattle.ready_counters.specs.Views.{with_open, with_fill, with_subtract, with_fetch}
use Rattle.ready_counters.specs.Sums.{total_of, claims, opens, fills, subtractions, fetches, draws}
use Rattle.ready_counters.specs.Edges.{edge_source, edge_target, result_at, left_from}
use Rattle.ready_counters.specs.Meaning.{claimed_word, HasWord, AreFirst, HasEdge, IsBoard}
use Rattle.ready_counters.specs.Ends.{IsDoneBy}
use Rattle.ready_counters.specs.Shows.{counter_of, held_at, was_done, core_of, BoardStep, Claiming, Ticketing, Opening}
use Rattle.ready_counters.specs.Shows.{Filling, Subtracting, Fetching, Splitting, Joining, Looking, core_step, IsStep}
use Rattle.ready_counters.specs.Shows.{LeadsBy}
use Rattle.ready_counters.proofs.Sums.{sum_set, sum_same, sum_at, sum_snoc, times_append, times_here}
use Rattle.ready_counters.proofs.Knowing.{filled_drawn, drawn_fetched, drawn_claimed, claim_mine}
use Rattle.ready_counters.proofs.Left.{left_bound}
use Rattle.ready_counters.proofs.Filling as filling
use Rattle.ready_counters.proofs.Lowering as lowering
use Rattle.ready_counters.proofs.Legality.{ends_from, ends_to}
use Rattle.ready_counters.proofs.Ranges.{same_over, set_over, get_over, index_over}
use Rattle.ready_counters.proofs.Entering.{into_map, all_into}

counter_plain : (w : ℕ) → (w ≡ claimed_word → ⊥) → counter_of w ≡ w
counter_plain w ne = rw (ne_eqb w claimed_word ne) refl

counter_taken : (w : ℕ) → w ≡ claimed_word → counter_of w ≡ 0
counter_taken w is = rw (eq-eqb w claimed_word is) refl

pub done_some : (k : ℕ) → 1 ≤ k → was_done k ≡ true
done_some zero l = absurd (omega arith)
done_some (suc k) l = refl

pub word_claimed : (c w l : ℕ) → HasWord c w l → 1 ≤ c → w ≡ claimed_word
word_claimed zero w l h le = absurd (omega arith)
word_claimed (suc c) w l h le = h.0

module _ {O A : Type 0} where
  -- a filled edge holds its result
  pub held_filled : (o f r w : ℕ) (h : Maybe (Maybe (Option (Arc (Published O) A)))) (v : NodeResult O)
      → HasEdge o f r w h v → o ≡ 0 → 1 ≤ f → held_at w v ≡ Some v
  held_filled zero zero r w h v has a b = absurd (omega arith)
  held_filled zero (suc f) zero w h v has a b = ap (λ x. held_at x v) has.0
  held_filled zero (suc f) (suc r) w h v has a b = ap (λ x. held_at x v) has
  held_filled (suc o) f r w h v has a b = absurd (omega arith)

  word_open : (o f r w : ℕ) (h : Maybe (Maybe (Option (Arc (Published O) A)))) (v : NodeResult O)
      → HasEdge o f r w h v → 1 ≤ o → w ≡ 1
  word_open zero f r w h v has le = absurd (omega arith)
  word_open (suc o) f r w h v has le = has

module _ {O : Type 0} where
  state_is : (a a' : List ℕ) (b b' : List Bool) (c c' : List (Option (NodeResult O))) (d d' e e' : List Bool) → a ≡ a'
      → b ≡ b' → c ≡ c' → d ≡ d' → e ≡ e'
      → ◌≡◌ {A = CoreState O} (record { counters = a; claimed = b; filled = c; subtracted = d; fetched = e })
      (record { counters = a'; claimed = b'; filled = c'; subtracted = d'; fetched = e' })
  state_is a a' b b' c c' d d' e e' p q r s t =
      λ i. record { counters = p i; claimed = q i; filled = r i; subtracted = s i; fetched = t i }

abbrev counters_in : ℕ → List ℕ → List ℕ
counters_in count words = map (λ n. counter_of (slice_index words n)) (range_with_len 0 count)

abbrev claimed_in : ℕ → List ℕ → List Bool
claimed_in count words = map (λ n. slice_index words n == claimed_word) (range_with_len 0 count)

abbrev filled_in : {O : Type 0} → (ℕ → NodeResult O) → ℕ → ℕ → List ℕ → List (Option (NodeResult O))
filled_in result count many words =
    map (λ e. held_at (slice_index words (count + e)) (result e)) (range_with_len 0 many)

abbrev done_in : (ℕ → ℕ) → ℕ → List Bool
done_in often many = map (λ e. was_done (often e)) (range_with_len 0 many)

-- a change at one word leaves what other words show
module _ (words : List ℕ) (i x count : ℕ) where
  counters_else : count ≤ i → counters_in count (set words i x) ≡ counters_in count words
  counters_else past = same_over (λ n. counter_of (slice_index (set words i x) n))
      (λ n. counter_of (slice_index words n)) 0 count
      (λ k lo up. ap counter_of (get_or-set_other words i k x 0 (λ same. absurd (omega arith))))

  claimed_else : count ≤ i → claimed_in count (set words i x) ≡ claimed_in count words
  claimed_else past = same_over (λ n. slice_index (set words i x) n == claimed_word)
      (λ n. slice_index words n == claimed_word) 0 count
      (λ k lo up. ap (λ w. w == claimed_word) (get_or-set_other words i k x 0 (λ same. absurd (omega arith))))

  filled_else : {O : Type 0} (result : ℕ → NodeResult O) (many : ℕ) → ((e : ℕ) → e < many → count + e ≢ i)
      → filled_in result count many (set words i x) ≡ filled_in result count many words
  filled_else result many apart =
      same_over (λ e. held_at (slice_index (set words i x) (count + e)) (result e))
      (λ e. held_at (slice_index words (count + e)) (result e)) 0 many
      (λ k lo up. ap (λ w. held_at w (result k)) (get_or-set_other words i (count + k) x 0 (apart k (omega arith))))

done_same : (f g : ℕ → ℕ) (many : ℕ) → ((e : ℕ) → f e ≡ g e) → done_in f many ≡ done_in g many
done_same f g many h = same_over (λ e. was_done (f e)) (λ e. was_done (g e)) 0 many (λ k lo up. ap was_done (h k))

done_more : (f g : ℕ → ℕ) (many e : ℕ) → e < many → 1 ≤ f e → ((x : ℕ) → x ≢ e → f x ≡ g x)
    → done_in f many ≡ set (done_in g many) e true
done_more f g many e l le h =
    set_over (λ e. was_done (f e)) (λ e. was_done (g e)) 0 many e e true (omega arith) l (done_some (f e) le)
    (λ k lo up ne. ap was_done (h k ne))

module _ {O A : Type 0} (mean : ℕ → List O → Result O Fault) (plan : Plan) (is_plan : IsPlan plan)
    (s : State (Option (Arc (Published O) A)) View)
    (holds : IsBoard plan.count plan.edges (result_at mean plan) s) where
  abbrev core : CoreState O
  core = core_of mean plan s.words s.views

  -- what the core has of one node and of one edge
  module _ (n : ℕ) (node : n < plan.count) where
    many : n < length s.words
    many = subst (λ k. n < k) (sym holds.many_words) (omega arith)

    few_left : left_from (subtractions s.views) 0 plan.edges n < 4294967296
    few_left = let b = left_bound (subtractions s.views) 0 plan.edges n in let f = is_plan.few in omega arith

    claimed_at : slice_get (claimed_in plan.count s.words) n ≡ Some (slice_index s.words n == claimed_word)
    claimed_at = get_over (λ n. slice_index s.words n == claimed_word) 0 plan.count n n (omega arith) node

    is_marked : 1 ≤ claims s.views n → IsMarked (claimed_in plan.count s.words) n
    is_marked le = claimed_at
        ∙ ap Some (eq-eqb (slice_index s.words n) claimed_word (word_claimed _ _ _ (holds.counters.words n node) le))

  module _ (e : ℕ) (inside : e < length plan.edges) where
    has_edge : HasEdge (opens s.views e) (fills s.views e) (fetches s.views e) (slice_index s.words (plan.count + e))
        (get_elem? s.homes e) (result_at mean plan e)
    has_edge = holds.states.words e inside

    target : edge_target plan.edges e < plan.count
    target = ends_to plan.count plan.edges is_plan.ends e inside

    source : edge_source plan.edges e < plan.count
    source = ends_from plan.count plan.edges is_plan.ends e inside

    opened_once : opens s.views e + fills s.views e ≤ 1
    opened_once = let a = filled_drawn plan.count plan.edges (result_at mean plan) s holds e inside in
        let b = drawn_claimed plan.count plan.edges (result_at mean plan) s holds (edge_source plan.edges e) in
        let c = holds.counters.once (edge_source plan.edges e) in omega arith

    pub filled_at : 1 ≤ fills s.views e
        → slice_get (filled_in (result_at mean plan) plan.count (length plan.edges) s.words) e ≡ Some
        (Some (result_at mean plan e))
    filled_at le = let o = opened_once in
        get_over (λ e. held_at (slice_index s.words (plan.count + e)) (result_at mean plan e)) 0
        (length plan.edges) e e (omega arith) inside
        ∙ ap Some (held_filled _ _ _ _ _ _ has_edge (omega arith) le)

    pub subtracted_at : slice_get (done_in (subtractions s.views) (length plan.edges)) e ≡ Some
        (was_done (subtractions s.views e))
    subtracted_at = get_over (λ e. was_done (subtractions s.views e)) 0 (length plan.edges) e e (omega arith) inside

    pub fetched_at : slice_get (done_in (fetches s.views) (length plan.edges)) e ≡ Some (was_done (fetches s.views e))
    fetched_at = get_over (λ e. was_done (fetches s.views e)) 0 (length plan.edges) e e (omega arith) inside

  -- the visit of a node with a ticket was made, and what it made is its result
  module _ (n : ℕ) (node : n < plan.count) (drawn : 1 ≤ draws s.views n) where
    in_fetched : (e : ℕ) → e < length plan.edges → edge_target plan.edges e ≡ n → 1 ≤ fetches s.views e
    in_fetched e inside to = let a = drawn_fetched plan.count plan.edges (result_at mean plan) s holds e inside in
        let b : draws s.views (edge_target plan.edges e) ≡ draws s.views n = ap (draws s.views) to in omega arith

    pub visit_made : VisitWasMade plan core n
    visit_made = (
      is_marked n node (let a = drawn_claimed plan.count plan.edges (result_at mean plan) s holds n in omega arith),
      all_into (IsMarked core.fetched) plan.edges n
          (λ e inside to. fetched_at e inside ∙ ap Some (done_some (fetches s.views e) (in_fetched e inside to))),
    )

    held_result : (e : ℕ) → e < length plan.edges → edge_target plan.edges e ≡ n
        → edge_result core e ≡ node_result mean plan (edge_source plan.edges e)
    held_result e inside to =
        let a = in_fetched e inside to in let b = holds.states.order e in
        ap (λ (x : Option (Option (NodeResult O))). Rattle.pass_core.specs.CoreStates.result_in x)
        (filled_at e inside (omega arith))

    pub made_result : HasNoCycle plan.edges → ResultsMeetTheirEquation O
        → visit_result mean plan core n ≡ node_result mean plan n
    made_result free equation =
        ap (λ (rs : List (NodeResult O)). judged_result (mean n) (all_outs rs))
        (into_map (edge_result core) (node_result mean plan) plan.edges n held_result)
        ∙ sym (equation mean plan n is_plan free node)

  module _ (id : ℕ) (v : View) (here : get_elem? s.views id ≡ some v) where
    subtracted_kept : (w : View) → w.subtracted ≡ v.subtracted
        → done_in (subtractions (set s.views id w)) (length plan.edges) ≡ done_in (subtractions s.views)
        (length plan.edges)
    subtracted_kept w same =
        done_same (subtractions (set s.views id w)) (subtractions s.views) (length plan.edges)
        (λ e. sum_same (λ (u : View). times e u.subtracted) s.views id v w here (ap (times e) same))

    fetched_kept : (w : View) → w.fetched ≡ v.fetched
        → done_in (fetches (set s.views id w)) (length plan.edges) ≡ done_in (fetches s.views) (length plan.edges)
    fetched_kept w same =
        done_same (fetches (set s.views id w)) (fetches s.views) (length plan.edges)
        (λ e. sum_same (λ (u : View). times e u.fetched) s.views id v w here (ap (times e) same))

    -- a step at an edge's word, or at the ticket word, that changes nothing of what the core has
    unchanged : (w : View) → w.subtracted ≡ v.subtracted → w.fetched ≡ v.fetched → (i x : ℕ) → plan.count ≤ i
        → filled_in (result_at mean plan) plan.count (length plan.edges) (set s.words i x) ≡ filled_in
        (result_at mean plan) plan.count (length plan.edges) s.words
        → core_of mean plan (set s.words i x) (set s.views id w) ≡ core
    unchanged w a b i x past same =
        state_is _ _ _ _ _ _ _ _ _ _ (counters_else s.words i x plan.count past)
        (claimed_else s.words i x plan.count past) same (subtracted_kept w a) (fetched_kept w b)

    -- a claim
    module _ (n : ℕ) (node : n < plan.count) (free : slice_index s.words n ≡ 0) where
      allows_claim : Allows plan core (Claim (record { 0 = n }))
      allows_claim = (
        claimed_at n node ∙ ap Some
            (ne_eqb (slice_index s.words n) claimed_word
            (λ t. let e : 0 ≡ claimed_word = sym free ∙ t in absurd (omega arith))),
        get_over (λ n. counter_of (slice_index s.words n)) 0 plan.count n n (omega arith) node
            ∙ ap (λ w. Some (counter_of w)) free,
      )

      after_claim : core_of mean plan (set s.words n claimed_word) (set s.views id (with_claim v n))
          ≡ after mean plan core
          (Claim (record { 0 = n }))
      after_claim = state_is _ _ _ _ _ _ _ _ _ _
          (same_over (λ k. counter_of (slice_index (set s.words n claimed_word) k))
          (λ k. counter_of (slice_index s.words k)) 0 plan.count
          (λ k lo up. dite (ℕ_discrete k n)
          (λ same. counter_taken (slice_index (set s.words n claimed_word) k)
          (ap (slice_index (set s.words n claimed_word)) same ∙ get_or-set_same s.words n claimed_word 0 (many n node))
          ∙ sym (ap counter_of (ap (slice_index s.words) same ∙ free)))
          (λ ne. ap counter_of (get_or-set_other s.words n k claimed_word 0 ne))))
          (set_over (λ k. slice_index (set s.words n claimed_word) k == claimed_word)
          (λ k. slice_index s.words k == claimed_word) 0 plan.count n n true (omega arith) node
          (eq-eqb (slice_index (set s.words n claimed_word) n) claimed_word
          (get_or-set_same s.words n claimed_word 0 (many n node)))
          (λ k lo up ne. ap (λ w. w == claimed_word) (get_or-set_other s.words n k claimed_word 0 ne)))
          (filled_else s.words n claimed_word plan.count (result_at mean plan) (length plan.edges)
          (λ e l same. absurd (omega arith)))
          (subtracted_kept (with_claim v n) refl) (fetched_kept (with_claim v n) refl)

    module _ (e : ℕ) (inside : e < length plan.edges) (live : 1 ≤ v.weight) where
      edge_word : plan.count + e < length s.words
      edge_word = subst (λ k. plan.count + e < k) (sym holds.many_words) (omega arith)

      -- a subtraction
      module _ (mine : 1 ≤ times e v.filled) (fresh : times e v.subtracted ≡ 0) where
        none_yet : subtractions s.views e ≡ 0
        none_yet = lowering.none_yet plan.count plan.edges (result_at mean plan) id e (v, []) inside
            (target e inside) live mine fresh s holds here

        some_filled : 1 ≤ fills s.views e
        some_filled = let a = sum_at (λ (u : View). times e u.filled) s.views id v here in omega arith

        the_word : (claims s.views (edge_target plan.edges e) ≡ 0)
            × (slice_index s.words (edge_target plan.edges e) ≡ left_from (subtractions s.views) 0 plan.edges
            (edge_target plan.edges e))
        the_word = lowering.the_word plan.count plan.edges (result_at mean plan) id e (v, []) inside
            (target e inside) live mine fresh s holds here

        some_left : 1 ≤ left_from (subtractions s.views) 0 plan.edges (edge_target plan.edges e)
        some_left = let a = lowering.one_less plan.count plan.edges (result_at mean plan) id e (v, []) inside
            (target e inside) live mine fresh s holds here in omega arith

        free_word : slice_index s.words (edge_target plan.edges e) ≡ claimed_word → ⊥
        free_word is =
            let a = the_word.1 in let b = few_left (edge_target plan.edges e) (target e inside) in omega arith

        allows_subtract : Allows plan core (Subtract e)
        allows_subtract = (
          (result_at mean plan e, filled_at e inside some_filled),
          subtracted_at e inside
              ∙ ap (λ k. Some (was_done k)) none_yet,
        )

        counter_less : counter_of (slice_index s.words (edge_target plan.edges e) - 1) ≡ slice_index
            (counters_in plan.count s.words) (edge_target plan.edges e) - 1
        counter_less =
            let a = the_word.1 in let b = few_left (edge_target plan.edges e) (target e inside) in let c = some_left in
            let d = counter_plain (slice_index s.words (edge_target plan.edges e) - 1) (λ is. absurd (omega arith)) in
            let f = index_over (λ n. counter_of (slice_index s.words n)) 0 plan.count (edge_target plan.edges e)
            (edge_target plan.edges e) (omega arith) (target e inside) in
            let g = counter_plain (slice_index s.words (edge_target plan.edges e)) free_word in
            d ∙ ap (λ w. w - 1) (sym (f ∙ g))

        after_subtract : core_of mean plan
            (set s.words (edge_target plan.edges e) (slice_index s.words (edge_target plan.edges e) - 1))
            (set s.views id (with_subtract v e)) ≡ after mean plan core (Subtract e)
        after_subtract =
            state_is _ _ _ _ _ _ _ _ _ _
            (set_over (λ k. counter_of
            (slice_index (set s.words (edge_target plan.edges e) (slice_index s.words (edge_target plan.edges e) - 1))
            k))
            (λ k. counter_of (slice_index s.words k)) 0 plan.count (edge_target plan.edges e) (edge_target plan.edges e)
            (slice_index (counters_in plan.count s.words) (edge_target plan.edges e) - 1) (omega arith)
            (target e inside)
            (ap counter_of (get_or-set_same s.words (edge_target plan.edges e)
            (slice_index s.words (edge_target plan.edges e) - 1) 0 (many (edge_target plan.edges e) (target e inside)))
            ∙ counter_less)
            (λ k lo up ne. ap counter_of
            (get_or-set_other s.words (edge_target plan.edges e) k
            (slice_index s.words (edge_target plan.edges e) - 1) 0 ne)))
            (same_over (λ k. slice_index
            (set s.words (edge_target plan.edges e) (slice_index s.words (edge_target plan.edges e) - 1)) k
            == claimed_word)
            (λ k. slice_index s.words k == claimed_word) 0 plan.count
            (λ k lo up. dite (ℕ_discrete k (edge_target plan.edges e))
            (λ same. let a = the_word.1 in let b = few_left (edge_target plan.edges e) (target e inside) in
            let is : slice_index (set s.words (edge_target plan.edges e)
            (slice_index s.words (edge_target plan.edges e) - 1)) k
            ≡ slice_index s.words (edge_target plan.edges e) - 1 =
            ap (slice_index (set s.words (edge_target plan.edges e)
            (slice_index s.words (edge_target plan.edges e) - 1))) same
            ∙ get_or-set_same s.words (edge_target plan.edges e) (slice_index s.words (edge_target plan.edges e) - 1) 0
            (many (edge_target plan.edges e) (target e inside)) in
            ne_eqb _ claimed_word (λ t. absurd (omega arith))
            ∙ sym (ne_eqb (slice_index s.words k) claimed_word
            (λ t. free_word (ap (slice_index s.words) (sym same) ∙ t))))
            (λ ne. ap (λ w. w == claimed_word)
            (get_or-set_other s.words (edge_target plan.edges e) k
            (slice_index s.words (edge_target plan.edges e) - 1) 0 ne))))
            (filled_else s.words (edge_target plan.edges e)
            (slice_index s.words (edge_target plan.edges e) - 1) plan.count
            (result_at mean plan) (length plan.edges) (λ x l same. let t = target e inside in absurd (omega arith)))
            (done_more (subtractions (set s.views id (with_subtract v e))) (subtractions s.views)
            (length plan.edges) e inside
            (let a = lowering.one_now plan.count plan.edges (result_at mean plan) id e (v, []) inside
            (target e inside) live mine fresh s holds here in omega arith)
            (lowering.others_now plan.count plan.edges (result_at mean plan) id e (v, []) inside
            (target e inside) live mine fresh s holds here))
            (fetched_kept (with_subtract v e) refl)

      -- a fetch
      module _ (mine : 1 ≤ times (edge_target plan.edges e) v.claimed) (fresh : times e v.fetched ≡ 0) where
        not_fetched : fetches s.views e ≡ 0
        not_fetched = filling.none_fetched plan.count plan.edges (result_at mean plan) s holds id e
            (v, []) here inside live (target e inside) mine fresh

        full_word : slice_index s.words (plan.count + e) ≡ 2
        full_word = (filling.full_here plan.count plan.edges (result_at mean plan) s holds id e
            (v, []) here inside live (target e inside) mine fresh).0

        allows_fetch : Allows plan core (Fetch e)
        allows_fetch = (
          is_marked (edge_target plan.edges e) (target e inside)
              (let o = claim_mine plan.count plan.edges (result_at mean plan) s holds id v here
              (edge_target plan.edges e) mine in omega arith),
          (
            result_at mean plan e,
            filled_at e inside (filling.some_filled plan.count plan.edges (result_at mean plan) s holds id e
                (v, []) here inside live (target e inside) mine fresh),
          ),
          fetched_at e inside ∙ ap (λ k. Some (was_done k)) not_fetched,
        )

        after_fetch : core_of mean plan (set s.words (plan.count + e) 3)
            (set s.views id (with_fetch v e)) ≡ after mean plan core (Fetch e)
        after_fetch = state_is _ _ _ _ _ _ _ _ _ _
            (counters_else s.words (plan.count + e) 3 plan.count (omega arith))
            (claimed_else s.words (plan.count + e) 3 plan.count (omega arith))
            (same_over (λ x. held_at (slice_index (set s.words (plan.count + e) 3) (plan.count + x))
            (result_at mean plan x))
            (λ x. held_at (slice_index s.words (plan.count + x)) (result_at mean plan x)) 0 (length plan.edges)
            (λ k lo up. dite (ℕ_discrete k e)
            (λ same. ap (λ w. held_at w (result_at mean plan k))
            (ap (λ x. slice_index (set s.words (plan.count + e) 3) (plan.count + x)) same
            ∙ get_or-set_same s.words (plan.count + e) 3 0 edge_word)
            ∙ sym (ap (λ w. held_at w (result_at mean plan k))
            (ap (λ x. slice_index s.words (plan.count + x)) same ∙ full_word)))
            (λ ne. ap (λ w. held_at w (result_at mean plan k))
            (get_or-set_other s.words (plan.count + e) (plan.count + k) 3 0 (λ same. ne (omega arith))))))
            (subtracted_kept (with_fetch v e) refl)
            (done_more (fetches (set s.views id (with_fetch v e))) (fetches s.views) (length plan.edges) e inside
            (let h = sum_set (λ (u : View). times e u.fetched) s.views id v (with_fetch v e) here in
            let t = times_here e v.fetched in let z = not_fetched in omega arith)
            (λ x ne. let h = sum_set (λ (u : View). times x u.fetched) s.views id v (with_fetch v e) here in
            let t = Rattle.ready_counters.proofs.Sums.times_else x e v.fetched ne in omega arith))

      -- a fill
      module _ (mine : 1 ≤ times e v.opened) where
        some_open : 1 ≤ opens s.views e
        some_open = let a = sum_at (λ (u : View). times e u.opened) s.views id v here in omega arith

        written_word : slice_index s.words (plan.count + e) ≡ 1
        written_word = word_open _ _ _ _ _ _ (has_edge e inside) some_open

        source_drawn : 1 ≤ draws s.views (edge_source plan.edges e)
        source_drawn = let a = some_open in
            let b = filled_drawn plan.count plan.edges (result_at mean plan) s holds e inside in omega arith

        allows_fill : Allows plan core (Fill e)
        allows_fill = (
          visit_made (edge_source plan.edges e) (source e inside) source_drawn,
          get_over (λ x. held_at (slice_index s.words (plan.count + x)) (result_at mean plan x)) 0
              (length plan.edges) e e (omega arith) inside
              ∙ ap (λ w. Some (held_at w (result_at mean plan e))) written_word,
        )

        after_fill : HasNoCycle plan.edges → ResultsMeetTheirEquation O
            → core_of mean plan (set s.words (plan.count + e) 2)
            (set s.views id (with_fill v e)) ≡ after mean plan core (Fill e)
        after_fill free equation = state_is _ _ _ _ _ _ _ _ _ _
            (counters_else s.words (plan.count + e) 2 plan.count (omega arith))
            (claimed_else s.words (plan.count + e) 2 plan.count (omega arith))
            (set_over (λ x. held_at (slice_index (set s.words (plan.count + e) 2) (plan.count + x))
            (result_at mean plan x))
            (λ x. held_at (slice_index s.words (plan.count + x)) (result_at mean plan x)) 0 (length plan.edges) e e
            (Some (visit_result mean plan core (edge_source plan.edges e))) (omega arith) inside
            (ap (λ w. held_at w (result_at mean plan e)) (get_or-set_same s.words (plan.count + e) 2 0 edge_word)
            ∙ ap Some (sym (made_result (edge_source plan.edges e) (source e inside) source_drawn free equation)))
            (λ k lo up ne. ap (λ w. held_at w (result_at mean plan k))
            (get_or-set_other s.words (plan.count + e) (plan.count + k) 2 0 (λ same. ne (omega arith)))))
            (subtracted_kept (with_fill v e) refl) (fetched_kept (with_fill v e) refl)

      -- an opening
      after_open : slice_index s.words (plan.count + e) ≡ 0
          → core_of mean plan (set s.words (plan.count + e) 1) (set s.views id (with_open v e)) ≡ core
      after_open empty = unchanged (with_open v e) refl refl (plan.count + e) 1 (omega arith)
          (same_over (λ x. held_at (slice_index (set s.words (plan.count + e) 1) (plan.count + x))
          (result_at mean plan x)) (λ x. held_at (slice_index s.words (plan.count + x)) (result_at mean plan x)) 0
          (length plan.edges)
          (λ k lo up. dite (ℕ_discrete k e)
          (λ same. ap (λ w. held_at w (result_at mean plan k))
          (ap (λ x. slice_index (set s.words (plan.count + e) 1) (plan.count + x)) same
          ∙ get_or-set_same s.words (plan.count + e) 1 0 edge_word)
          ∙ sym (ap (λ w. held_at w (result_at mean plan k))
          (ap (λ x. slice_index s.words (plan.count + x)) same ∙ empty)))
          (λ ne. ap (λ w. held_at w (result_at mean plan k))
          (get_or-set_other s.words (plan.count + e) (plan.count + k) 1 0 (λ same. ne (omega arith))))))

    -- a ticket
    after_ticket : (n k x : ℕ)
        → core_of mean plan (set s.words (plan.count + length plan.edges) x) (set s.views id (with_ticket v n k)) ≡ core
    after_ticket n k x = unchanged (with_ticket v n k) refl refl (plan.count + length plan.edges) x (omega arith)
        (filled_else s.words (plan.count + length plan.edges) x plan.count (result_at mean plan) (length plan.edges)
        (λ e l same. absurd (omega arith)))

    -- seats that are split or joined
    same_views : (views : List View)
        → ((f : View → ℕ) → f nothing ≡ 0 → f one ≡ 0 → ((v : View) → f (lighter v) ≡ f v)
        → ((v w : View) → f (together v w) ≡ f v + f w) → total_of f views ≡ total_of f s.views)
        → core_of mean plan s.words views ≡ core
    same_views views h = state_is _ _ _ _ _ _ _ _ _ _ refl refl refl
        (done_same (subtractions views) (subtractions s.views) (length plan.edges)
        (λ e. h (λ (v : View). times e v.subtracted) refl refl (λ v. refl)
        (λ v w. times_append e v.subtracted w.subtracted)))
        (done_same (fetches views) (fetches s.views) (length plan.edges)
        (λ e. h (λ (v : View). times e v.fetched) refl refl (λ v. refl)
        (λ v w. times_append e v.fetched w.fetched)))

    after_split : core_of mean plan s.words (set s.views id (lighter v) ++ one ∷ []) ≡ core
    after_split = same_views (set s.views id (lighter v) ++ one ∷ [])
        (λ f a b c d. let x = sum_set f s.views id v (lighter v) here in
        let y = sum_snoc f (set s.views id (lighter v)) one in let z = c v in omega arith)

    after_join : (other : ℕ) (w : View) → other ≢ id → get_elem? s.views other ≡ some w
        → core_of mean plan s.words (set (set s.views id (together v w)) other nothing) ≡ core
    after_join other w ne at =
        let there : get_elem? (set s.views id (together v w)) other ≡ some w =
        set_else s.views id other (together v w) ne ∙ at in
        same_views (set (set s.views id (together v w)) other nothing)
        (λ f a b c d. let x = sum_set f s.views id v (together v w) here in
        let y = sum_set f (set s.views id (together v w)) other w nothing there in let z = d v w in omega arith)

  module _ (free : HasNoCycle plan.edges) (equation : ResultsMeetTheirEquation O)
      (t : State (Option (Arc (Published O) A)) View) where
    core_is : (words : List ℕ) (views : List View) → t.words ≡ words → t.views ≡ views
        → core_of mean plan t.words t.views ≡ core_of mean plan words views
    core_is words views a b = λ i. core_of mean plan (a i) (b i)

    pub leads : (step : BoardStep) (id : ℕ) (v : View) → IsStep plan step id v s t
        → LeadsBy mean plan (core_step step) (core_of mean plan s.words s.views) (core_of mean plan t.words t.views)
    leads (Claiming n) id v h =
        (allows_claim id v h.2.0 n h.0 h.1, core_is _ _ h.2.2 h.2.3 ∙ after_claim id v h.2.0 n h.0 h.1)
    leads (Ticketing n) id v h =
        core_is _ _ h.2 h.3 ∙ after_ticket id v h.0 n (slice_index s.words (plan.count + length plan.edges))
        (slice_index s.words (plan.count + length plan.edges) + 1)
    leads (Opening e) id v h = core_is _ _ h.2.2 h.2.3 ∙ after_open id v h.2.0 e h.0 h.2.1 h.1
    leads (Filling e) id v h = (
      allows_fill id v h.2.0 e h.0 h.2.1 h.1,
      core_is _ _ h.2.2 h.2.3
          ∙ after_fill id v h.2.0 e h.0 h.2.1 h.1 free equation,
    )
    leads (Subtracting e) id v h = (
      allows_subtract id v h.3.0 e h.0 h.3.1 h.1 h.2,
      core_is _ _ h.3.2 h.3.3
          ∙ after_subtract id v h.3.0 e h.0 h.3.1 h.1 h.2,
    )
    leads (Fetching e) id v h = (
      allows_fetch id v h.3.0 e h.0 h.3.1 h.1 h.2,
      core_is _ _ h.3.2 h.3.3
          ∙ after_fetch id v h.3.0 e h.0 h.3.1 h.1 h.2,
    )
    leads Splitting id v h = core_is _ _ h.1 h.2 ∙ after_split id v h.0
    leads (Joining other) id v h = core_is _ _ h.4 h.5 ∙ after_join id v h.1 other h.0 h.2 h.3
    leads Looking id v h = core_is _ _ h.0 h.1

  -- a board on which one seat has done all
  module _ (id : ℕ) (v : View) (here : get_elem? s.views id ≡ some v) (done : IsDoneBy plan.count plan.edges v) where
    each_fetched : (e : ℕ) → e < length plan.edges → 1 ≤ fetches s.views e
    each_fetched e inside = let a = sum_at (λ (u : View). times e u.fetched) s.views id v here in
        let d = (done.1 e inside).2 in omega arith

    each_visited : (n : ℕ) → n < plan.count → VisitWasMade plan core n
    each_visited n node = (
      is_marked n node (let a = sum_at (λ (u : View). times n u.claimed) s.views id v here in let d = done.0 n node in
          omega arith),
      all_into (IsMarked core.fetched) plan.edges n
          (λ e inside to. fetched_at e inside ∙ ap Some (done_some (fetches s.views e) (each_fetched e inside))),
    )

    each_filled : (e : ℕ) → e < length plan.edges → IsFilled core e
    each_filled e inside = (
      result_at mean plan e,
      filled_at e inside (let a = sum_at (λ (u : View). times e u.filled) s.views id v here in
          let d = (done.1 e inside).0 in omega arith),
    )

    each_subtracted : (e : ℕ) → e < length plan.edges → IsMarked core.subtracted e
    each_subtracted e inside =
        subtracted_at e inside
        ∙ ap Some (done_some (subtractions s.views e)
        (let a = sum_at (λ (u : View). times e u.subtracted) s.views id v here in let d = (done.1 e inside).1 in
        omega arith))

    pub shows_finished : IsFinished plan core
    shows_finished = record {
      visited = each_visited;
      filled = each_filled;
      subtracted = each_subtracted;
      fetched = λ e inside. fetched_at e inside ∙ ap Some (done_some (fetches s.views e) (each_fetched e inside));
    }

-- a new board
module _ {X : Type 0} where
  const_over : (x : X) (b m : ℕ) → map (λ (k : ℕ). x) (range_with_len b m) ≡ replicate m x
  const_over x b zero = refl
  const_over x b (suc m) = ap (λ xs. x ∷ xs) (const_over x (b + 1) m)

left_head : (d : PlanEdge) (k : ℕ) (ds : List PlanEdge) (n : ℕ)
    → left_from (λ _. 0) (suc k) ds n ≡ length (predecessors ds n) → (b : Bool) → (d.to.0 == n) ≡ b
    → left_from (λ _. 0) k (d ∷ ds) n ≡ length (predecessors (d ∷ ds) n)
left_head d k ds n h true is = rw is (omega arith)
left_head d k ds n h false is = rw is (omega arith)

all_left : (k : ℕ) (ds : List PlanEdge) (n : ℕ) → left_from (λ _. 0) k ds n ≡ length (predecessors ds n)
all_left k [] n = refl
all_left k (d ∷ ds) n = left_head d k ds n (all_left (suc k) ds n) (d.to.0 == n) refl

module _ {O : Type 0} (mean : ℕ → List O → Result O Fault) (plan : Plan) (words : List ℕ) (is_plan : IsPlan plan)
    (first : AreFirst plan.count (length plan.edges) plan.edges words) where
  first_word : (n : ℕ) → n < plan.count → slice_index words n < 4294967296
  first_word n node = let a = first.1 n node in let b = left_bound (λ _. 0) 0 plan.edges n in let f = is_plan.few in
      omega arith

  pub shows_beginning : core_of mean plan words (all_of_it ∷ []) ≡ beginning plan
  shows_beginning = state_is _ _ _ _ _ _ _ _ _ _
      (same_over (λ n. counter_of (slice_index words n)) (λ n. length (predecessors plan.edges n)) 0 plan.count
      (λ k lo up. counter_plain (slice_index words k)
      (λ is. let a = first_word k (omega arith) in absurd (omega arith)) ∙ first.1 k (omega arith)
      ∙ all_left 0 plan.edges k))
      (same_over (λ n. slice_index words n == claimed_word) (λ _. false) 0 plan.count
      (λ k lo up. ne_eqb (slice_index words k) claimed_word
      (λ is. let a = first_word k (omega arith) in absurd (omega arith))) ∙ const_over false 0 plan.count)
      (same_over (λ e. held_at (slice_index words (plan.count + e)) (result_at mean plan e)) (λ _. None) 0
      (length plan.edges) (λ k lo up. ap (λ w. held_at w (result_at mean plan k))
      (first.2 (plan.count + k) (omega arith))) ∙ const_over None 0 (length plan.edges))
      (const_over false 0 (length plan.edges))
      (const_over false 0 (length plan.edges))
