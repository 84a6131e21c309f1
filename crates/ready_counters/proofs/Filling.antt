-- Opening and filling an edge, fetching it, and giving its slot back.
use Rattle.std.proofs.Common.{◌≡◌, ◌+◌, ◌<◌, ◌≤◌, ◌==◌, ℕ, zero, suc, List, [], ◌∷◌, length, length-set, set, refl, ap}
use Rattle.std.proofs.Common.{arith, ◌∙◌, sym, subst, Option, Some, None, eq-eqb}
use Rattle.std.specs.Prelude.{slice_index}
use Rattle.std.specs.declared.sync.Arc.{Arc}
use Rattle.std.specs.Arc.{arc_value}
use mathlib.Core.Option.{Option as Maybe, some, none}
use mathlib.Core.Logic.{dite}
use native.Mathlib.Decide.{ℕ_discrete}
use prog.Atomic.{either}
use lib.ListN.{get_elem?}
use Rattle.atomic_table.specs.Table.{State, Me, takes, gives, stepped, Allows, homes_after}
use Rattle.atomic_table.proofs.Lists.{set_here, set_else, set_again}
use Rattle.serial_pass.specs.declared.plan.PlanEdge.{PlanEdge}
use Rattle.pass_core.specs.declared.published.Published.{Published}
use Rattle.serial_pass.specs.Results.{NodeResult}
use Rattle.pass_core.specs.Shown.{published_result}
use Rattle.ready_counters.specs.declared.view.View.{View}
use Rattle.ready_counters.specs.Edges.{edge_target, edge_source}
use Rattle.ready_counters.specs.Meaning.{IsFull, HasEdge, IsView, IsBoard}
use Rattle.ready_counters.specs.Sums.{opens, fills, fetches}
use Rattle.ready_counters.specs.Views.{times, tickets_for}
use Rattle.ready_counters.specs.Inside.{Opens, Fills, Fetches, Returns}
use Rattle.ready_counters.specs.Views.{with_open, with_fill, with_fetch, without_first}
use Rattle.ready_counters.proofs.Sums.{sum_set, sum_same, sum_at, total_add, total_less, times_here, times_else}
use Rattle.ready_counters.proofs.Frames.{at_edge}
use Rattle.ready_counters.proofs.Knowing.{times_grow, filled_drawn, drawn_claimed, subtracted_filled}
use Rattle.ready_counters.proofs.Knowing.{claimed_subtracted, claim_mine}

module _ {O A : Type 0} where
  at_empty : (o f r w : ℕ) (h : Maybe (Maybe (Option (Arc (Published O) A)))) (v : NodeResult O) → HasEdge o f r w h v
      → o ≡ 0 → f ≡ 0 → (w ≡ 0) × (h ≡ some (some None))
  at_empty zero zero r w h v has a b = has
  at_empty zero (suc f) r w h v has a b = absurd (omega arith)
  at_empty (suc o) f r w h v has a b = absurd (omega arith)

  is_writing : (o f r w : ℕ) (h : Maybe (Maybe (Option (Arc (Published O) A)))) (v : NodeResult O) → 1 ≤ o → w ≡ 1
      → HasEdge o f r w h v
  is_writing zero f r w h v le is = absurd (omega arith)
  is_writing (suc o) f r w h v le is = is

  is_full : (o f r w : ℕ) (h : Maybe (Maybe (Option (Arc (Published O) A)))) (v : NodeResult O) → o ≡ 0 → 1 ≤ f
      → r ≡ 0 → w ≡ 2 → IsFull v h → HasEdge o f r w h v
  is_full zero zero r w h v a b c is full = absurd (omega arith)
  is_full zero (suc f) zero w h v a b c is full = (is, full)
  is_full zero (suc f) (suc r) w h v a b c is full = absurd (omega arith)
  is_full (suc o) f r w h v a b c is full = absurd (omega arith)

  at_full : (o f r w : ℕ) (h : Maybe (Maybe (Option (Arc (Published O) A)))) (v : NodeResult O) → HasEdge o f r w h v
      → o ≡ 0 → 1 ≤ f → r ≡ 0 → (w ≡ 2) × IsFull v h
  at_full zero zero r w h v has a b c = absurd (omega arith)
  at_full zero (suc f) zero w h v has a b c = has
  at_full zero (suc f) (suc r) w h v has a b c = absurd (omega arith)
  at_full (suc o) f r w h v has a b c = absurd (omega arith)

  is_reading : (o f r w : ℕ) (h : Maybe (Maybe (Option (Arc (Published O) A)))) (v : NodeResult O) → o ≡ 0 → 1 ≤ f
      → 1 ≤ r → w ≡ 3 → HasEdge o f r w h v
  is_reading zero zero r w h v a b c is = absurd (omega arith)
  is_reading zero (suc f) zero w h v a b c is = absurd (omega arith)
  is_reading zero (suc f) (suc r) w h v a b c is = is
  is_reading (suc o) f r w h v a b c is = absurd (omega arith)

  -- where it was fetched, the slot doesn't matter
  other_home : (o f r w : ℕ) (h k : Maybe (Maybe (Option (Arc (Published O) A)))) (v : NodeResult O) → 1 ≤ r → r ≤ f
      → HasEdge o f r w h v → HasEdge o f r w k v
  other_home zero zero r w h k v a b has = absurd (omega arith)
  other_home zero (suc f) zero w h k v a b has = absurd (omega arith)
  other_home zero (suc f) (suc r) w h k v a b has = has
  other_home (suc o) f r w h k v a b has = has

  module _ (count : ℕ) (edges : List PlanEdge) (result : ℕ → NodeResult O)
      (s : State (Option (Arc (Published O) A)) View) (holds : IsBoard count edges result s) (id e : ℕ)
      (me : Me (Option (Arc (Published O) A)) View) (here : get_elem? s.views id ≡ some me.0)
      (inside : e < length edges) (live : 1 ≤ me.0.weight) where
    before : IsView count edges me.0
    before = holds.seats id me.0 here

    -- an edge is opened or filled at most once
    pub both_once : opens s.views e + fills s.views e ≤ 1
    both_once = let a = filled_drawn count edges result s holds e inside in
        let b = drawn_claimed count edges result s holds (edge_source edges e) in
        let c = holds.counters.once (edge_source edges e) in omega arith

    pub has_edge : HasEdge (opens s.views e) (fills s.views e) (fetches s.views e) (slice_index s.words (count + e))
        (get_elem? s.homes e) (result e)
    has_edge = holds.states.words e inside

    slot : e < length s.homes
    slot = subst (λ k. e < k) (sym holds.many_slots) inside

    module _ (ticket : 1 ≤ tickets_for (edge_source edges e) me.0.tickets) (closed : times e me.0.opened ≡ 0)
        (fresh : times e me.0.filled ≡ 0) where
      pub none_yet : opens s.views e + fills s.views e ≡ 0
      none_yet =
          let t = total_less (λ (v : View). times e v.opened + times e v.filled)
          (λ (v : View). tickets_for (edge_source edges e) v.tickets) s.views id me.0
          (λ j v at. (holds.seats j v at).sourced e inside) here (omega arith) in
          let a = total_add (λ (v : View). times e v.opened) (λ (v : View). times e v.filled) s.views in
          let b = drawn_claimed count edges result s holds (edge_source edges e) in
          let c = holds.counters.once (edge_source edges e) in omega arith

      pub empty_here : (slice_index s.words (count + e) ≡ 0) × (get_elem? s.homes e ≡ some (some None))
      empty_here = let n = none_yet in at_empty _ _ _ _ _ _ has_edge (omega arith) (omega arith)

      opened_view : IsView count edges (with_open me.0 e)
      opened_view = record {
        idle = λ z. absurd (omega arith);
        nodes = before.nodes;
        ends = λ x le. let t = times_else x e me.0.opened (λ same. omega arith) in let h = before.ends x le in
            omega arith;
        subtracted = before.subtracted;
        sourced = λ x l. dite (ℕ_discrete x e)
            (λ same. subst (λ y. times y (e ∷ me.0.opened) + times y me.0.filled ≤ tickets_for
            (edge_source edges y) me.0.tickets) (sym same) (let t = times_here e me.0.opened in omega arith))
            (λ ne. let t = times_else x e me.0.opened ne in let h = before.sourced x l in omega arith);
        drawn = before.drawn;
        gathered = before.gathered;
        targeted = before.targeted;
      }

      pub opened_state : IsBoard count edges result (stepped s (count + e) 1 id me.1 (with_open me.0 e) (takes e None))
      opened_state = let n = none_yet in let t = times_here e me.0.opened in
          let o = sum_set (λ (u : View). times e u.opened) s.views id me.0 (with_open me.0 e) here in
          let f = sum_same (λ (u : View). times e u.filled) s.views id me.0 (with_open me.0 e) here refl in
          let r = sum_same (λ (u : View). times e u.fetched) s.views id me.0 (with_open me.0 e) here refl in
          let once = holds.states.order e in
          at_edge count edges result s holds id me.0
          (with_open me.0 e) here opened_view refl refl refl refl e 1 inside
          (λ x ne. times_else x e me.0.opened ne) (λ x ne. refl) (λ x ne. refl)
          (set s.homes e none) (length-set s.homes e none) (λ x ne. set_else s.homes e x none ne) (omega arith)
          (is_writing _ _ _ _ _ _ (omega arith) refl)

    module _ (opened : me.0.opened ≡ e ∷ []) (shared : Arc (Published O) A) (out : me.1 ≡ (e, Some shared) ∷ [])
        (right : published_result (arc_value shared) ≡ result e) where
      once_open : times e me.0.opened ≡ 1
      once_open = ap (times e) opened ∙ times_here e []

      now_closed : (x : ℕ) → times x (without_first me.0.opened) ≡ 0
      now_closed x = ap (λ l. times x (without_first l)) opened

      else_closed : (x : ℕ) → (x ≡ e → ⊥) → times x me.0.opened ≡ 0
      else_closed x ne = ap (times x) opened ∙ times_else x e [] ne

      filled_view : IsView count edges (with_fill me.0 e)
      filled_view = record {
        idle = λ z. absurd (omega arith);
        nodes = before.nodes;
        ends = λ x le. let c = now_closed x in let t = times_else x e me.0.filled (λ same. omega arith) in
            let h = before.ends x le in omega arith;
        subtracted = λ x. let t = times_grow x e me.0.filled in let h = before.subtracted x in omega arith;
        sourced = λ x l. dite (ℕ_discrete x e)
            (λ same. subst (λ y. times y (without_first me.0.opened) + times y (e ∷ me.0.filled) ≤ tickets_for
            (edge_source edges y) me.0.tickets) (sym same)
            (let c = now_closed e in let o = once_open in let t = times_here e me.0.filled in
            let h = before.sourced e inside in omega arith))
            (λ ne. let c = now_closed x in let t = times_else x e me.0.filled ne in let h = before.sourced x l in
            omega arith);
        drawn = before.drawn;
        gathered = before.gathered;
        targeted = before.targeted;
      }

      pub filled_state : IsBoard count edges result (stepped s (count + e) 2 id me.1 (with_fill me.0 e) gives)
      filled_state =
          let one = once_open in let c = now_closed e in
          let at = sum_at (λ (u : View). times e u.opened) s.views id me.0 here in
          let both = both_once in let t = times_here e me.0.filled in
          let o = sum_set (λ (u : View). times e u.opened) s.views id me.0 (with_fill me.0 e) here in
          let f = sum_set (λ (u : View). times e u.filled) s.views id me.0 (with_fill me.0 e) here in
          let r = sum_same (λ (u : View). times e u.fetched) s.views id me.0 (with_fill me.0 e) here refl in
          let order = holds.states.order e in
          subst (λ (homes : List (Maybe (Option (Arc (Published O) A)))). IsBoard count edges result record {
            words =
                set s.words (count + e) 2;
            homes = homes;
            views = set s.views id (with_fill me.0 e);
          })
          (ap (λ (c : List (ℕ × Option (Arc (Published O) A))). homes_after s.homes c gives) (sym out))
          (at_edge count edges result s holds id me.0 (with_fill me.0 e) here filled_view refl refl refl refl e 2 inside
          (λ x ne. now_closed x ∙ sym (else_closed x ne)) (λ x ne. times_else x e me.0.filled ne) (λ x ne. refl)
          (set s.homes e (some (Some shared))) (length-set s.homes e (some (Some shared)))
          (λ x ne. set_else s.homes e x (some (Some shared)) ne) (omega arith)
          (is_full _ _ _ _ _ _ (omega arith) (omega arith) (omega arith) refl
          (shared, set_here s.homes e (some (Some shared)) slot, right)))

    module _ (node : edge_target edges e < count) (claimed : 1 ≤ times (edge_target edges e) me.0.claimed)
        (fresh : times e me.0.fetched ≡ 0) where
      pub none_fetched : fetches s.views e ≡ 0
      none_fetched =
          let t = total_less (λ (v : View). times e v.fetched)
          (λ (v : View). times (edge_target edges e) v.claimed) s.views id me.0
          (λ j v at. (holds.seats j v at).targeted e inside) here (omega arith) in
          let c = holds.counters.once (edge_target edges e) in omega arith

      pub some_filled : 1 ≤ fills s.views e
      some_filled =
          let a = claimed_subtracted count edges result s holds (edge_target edges e) node
          (let o = claim_mine count edges result s holds id me.0 here (edge_target edges e) claimed in
          omega arith) e inside refl in
          let b = subtracted_filled count edges result s holds e in omega arith

      pub none_open : opens s.views e ≡ 0
      none_open = let a = both_once in let b = some_filled in omega arith

      pub full_here : (slice_index s.words (count + e) ≡ 2) × IsFull (result e) (get_elem? s.homes e)
      full_here = at_full _ _ _ _ _ _ has_edge none_open some_filled none_fetched

      fetched_view : IsView count edges (with_fetch me.0 e)
      fetched_view = record {
        idle = λ z. absurd (omega arith);
        nodes = before.nodes;
        ends = λ x le. let t = times_else x e me.0.fetched (λ same. omega arith) in let h = before.ends x le in
            omega arith;
        subtracted = before.subtracted;
        sourced = before.sourced;
        drawn = before.drawn;
        gathered = λ x l. let t = times_grow x e me.0.fetched in let h = before.gathered x l in omega arith;
        targeted = λ x l. dite (ℕ_discrete x e)
            (λ same. subst (λ y. times y (e ∷ me.0.fetched) ≤ times (edge_target edges y) me.0.claimed) (sym same)
            (let t = times_here e me.0.fetched in omega arith))
            (λ ne. let t = times_else x e me.0.fetched ne in let h = before.targeted x l in omega arith);
      }

      pub fetched_state : (shared : Arc (Published O) A)
          → IsBoard count edges result (stepped s (count + e) 3 id me.1 (with_fetch me.0 e) (takes e (Some shared)))
      fetched_state shared =
          let a = none_open in let b = some_filled in let d = none_fetched in let t = times_here e me.0.fetched in
          let both = both_once in
          let o = sum_same (λ (u : View). times e u.opened) s.views id me.0 (with_fetch me.0 e) here refl in
          let f = sum_same (λ (u : View). times e u.filled) s.views id me.0 (with_fetch me.0 e) here refl in
          let r = sum_set (λ (u : View). times e u.fetched) s.views id me.0 (with_fetch me.0 e) here in
          at_edge count edges result s holds id me.0
          (with_fetch me.0 e) here fetched_view refl refl refl refl e 3 inside (λ x ne. refl) (λ x ne. refl)
          (λ x ne. times_else x e me.0.fetched ne)
          (set s.homes e none) (length-set s.homes e none) (λ x ne. set_else s.homes e x none ne) (omega arith)
          (is_reading _ _ _ _ _ _ (omega arith) (omega arith) (omega arith) refl)

    pub returned_state : 1 ≤ times e me.0.fetched → (x : Option (Arc (Published O) A)) → me.1 ≡ (e, x) ∷ []
        → IsBoard count edges result (stepped s (count + e) (slice_index s.words (count + e)) id me.1 me.0 gives)
    returned_state mine x out =
        let at = sum_at (λ (u : View). times e u.fetched) s.views id me.0 here in let order = holds.states.order e in
        let f = sum_same (λ (u : View). times e u.filled) s.views id me.0 me.0 here refl in
        let r = sum_same (λ (u : View). times e u.fetched) s.views id me.0 me.0 here refl in
        subst (λ (homes : List (Maybe (Option (Arc (Published O) A)))). IsBoard count edges result record {
          words =
              set s.words (count + e) (slice_index s.words (count + e));
          homes = homes;
          views = set s.views id me.0;
        })
        (ap (λ (c : List (ℕ × Option (Arc (Published O) A))). homes_after s.homes c gives) (sym out))
        (at_edge count edges result s holds id me.0 me.0 here before refl refl refl refl e
        (slice_index s.words (count + e)) inside (λ y ne. refl) (λ y ne. refl) (λ y ne. refl)
        (set s.homes e (some x)) (length-set s.homes e (some x)) (λ y ne. set_else s.homes e y (some x) ne)
        (omega arith)
        (subst (λ (vs : List View). HasEdge (opens vs e) (fills vs e) (fetches vs e) (slice_index s.words (count + e))
        (get_elem? (set s.homes e (some x)) e) (result e)) (sym (set_again s.views id me.0 here))
        (other_home _ _ _ _ (get_elem? s.homes e) _ _ (omega arith) order has_edge)))

  module _ (count : ℕ) (edges : List PlanEdge) (result : ℕ → NodeResult O) (slots id e : ℕ)
      (me : Me (Option (Arc (Published O) A)) View) (inside : e < length edges) (live : 1 ≤ me.0.weight) where
    pub open_allows : 1 ≤ tickets_for (edge_source edges e) me.0.tickets → me.0.opened ≡ [] → times e me.0.filled ≡ 0
        → Allows (IsBoard count edges result) slots id me (count + e) (λ n. either (n == 0) 1 n)
        (λ n after. Opens e me after)
    open_allows ticket closed fresh s holds many here small =
        let shut : times e me.0.opened ≡ 0 = ap (times e) closed in
        let empty = empty_here count edges result s holds id e me here inside live ticket shut fresh in
        let word : either (slice_index s.words (count + e) == 0) 1 (slice_index s.words (count + e)) ≡ 1 =
        ap (λ b. either b 1 (slice_index s.words (count + e)))
        (eq-eqb (slice_index s.words (count + e)) 0 empty.0) in (
          with_open me.0 e,
          takes e None,
          empty.1,
          subst (λ n. IsBoard count edges result (stepped s (count + e) n id me.1 (with_open me.0 e) (takes e None)))
              (sym word) (opened_state count edges result s holds id e me here inside live ticket shut fresh),
          (refl, refl),
        )

    pub fill_allows : me.0.opened ≡ e ∷ [] → (shared : Arc (Published O) A) → me.1 ≡ (e, Some shared) ∷ []
        → published_result (arc_value shared) ≡ result e
        → Allows (IsBoard count edges result) slots id me (count + e) (λ _. 2) (λ _ after. Fills e me after)
    fill_allows opened shared out right s holds many here small = (
      with_fill me.0 e,
      gives,
      tt,
      filled_state count edges result s holds id e me here inside live opened shared out right,
      (refl, refl),
    )

    pub fetch_allows : (value : NodeResult O) → edge_target edges e < count
        → 1 ≤ times (edge_target edges e) me.0.claimed
        → times e me.0.fetched ≡ 0 → result e ≡ value
        → Allows (IsBoard count edges result) slots id me (count + e) (λ n. either (n == 2) 3 n)
        (λ n after. Fetches e value me after)
    fetch_allows value node claimed fresh named s holds many here small =
        let full = full_here count edges result s holds id e me here inside live node claimed fresh in
        let word : either (slice_index s.words (count + e) == 2) 3 (slice_index s.words (count + e)) ≡ 3 =
        ap (λ b. either b 3 (slice_index s.words (count + e)))
        (eq-eqb (slice_index s.words (count + e)) 2 full.0) in (
          with_fetch me.0 e,
          takes e (Some full.1.0),
          full.1.1,
          subst (λ n. IsBoard count edges result
              (stepped s (count + e) n id me.1 (with_fetch me.0 e) (takes e (Some full.1.0)))) (sym word)
              (fetched_state count edges result s holds id e me here inside live node claimed fresh full.1.0),
          (refl, (full.1.0, refl, full.1.2 ∙ named)),
        )

    pub return_allows : 1 ≤ times e me.0.fetched → (x : Option (Arc (Published O) A)) → me.1 ≡ (e, x) ∷ []
        → Allows (IsBoard count edges result) slots id me (count + e) (λ n. n) (λ _ after. Returns me after)
    return_allows mine x out s holds many here small =
        (me.0, gives, tt, returned_state count edges result s holds id e me here inside live mine x out, (refl, refl))
