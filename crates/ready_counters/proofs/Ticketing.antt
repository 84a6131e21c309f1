-- A ticket keeps the rule.
use Rattle.std.proofs.Common.{◌≡◌, ◌+◌, ◌%◌, ◌^◌, ◌<◌, ◌≤◌, ℕ, suc, List, ◌∷◌, length, set, refl, ap, arith, ◌∙◌, sym}
use Rattle.std.proofs.Common.{subst, Option}
use Rattle.std.specs.Prelude.{slice_index}
use Rattle.std.specs.declared.sync.Arc.{Arc}
use mathlib.Core.Option.{some}
use mathlib.Core.Logic.{dite}
use native.Mathlib.Decide.{ℕ_discrete}
use lib.ListN.{get_elem?}
use Rattle.atomic_table.specs.Table.{State, Me, keeps, Allows}
use Rattle.serial_pass.specs.declared.plan.PlanEdge.{PlanEdge}
use Rattle.pass_core.specs.declared.published.Published.{Published}
use Rattle.serial_pass.specs.Results.{NodeResult}
use Rattle.ready_counters.specs.declared.view.View.{View}
use Rattle.ready_counters.specs.Edges.{edge_target, edge_source}
use Rattle.ready_counters.specs.Meaning.{IsView, HasTickets, IsBoard}
use Rattle.ready_counters.specs.Sums.{fetches, draws, drawn_numbers, uses}
use Rattle.ready_counters.specs.Views.{times, tickets_for, ticket_number, tickets_with}
use Rattle.ready_counters.specs.Inside.{Draws}
use Rattle.ready_counters.specs.Views.{with_ticket}
use Rattle.ready_counters.proofs.Sums.{sum_set, sum_at, total_less, total_none, ticket_here, ticket_else, number_here}
use Rattle.ready_counters.proofs.Sums.{number_else, used_here, used_else, no_number, below_more, below_short}
use Rattle.ready_counters.proofs.Frames.{at_ticket}
use Rattle.ready_counters.proofs.Knowing.{filled_drawn, drawn_fetched, drawn_claimed}

-- a word that is one more
abbrev pub raised : ℕ → ℕ
raised x = (x + 1) % 2 ^ 64

raised_is : (x : ℕ) → x ≤ 4294967296 → raised x ≡ suc x
raised_is x l = omega arith

module _ {O A : Type 0} (count : ℕ) (edges : List PlanEdge) (result : ℕ → NodeResult O) (id n : ℕ)
    (me : Me (Option (Arc (Published O) A)) View) (small : count < 4294967296) (node : n < count)
    (live : 1 ≤ me.0.weight)
    (claimed : 1 ≤ times n me.0.claimed)
    (ready : (e : ℕ) → e < length edges → edge_target edges e ≡ n → 1 ≤ times e me.0.fetched)
    (fresh : tickets_for n me.0.tickets ≡ 0)
    (s : State (Option (Arc (Published O) A)) View) (holds : IsBoard count edges result s)
    (here : get_elem? s.views id ≡ some me.0) where
  word : ℕ
  word = slice_index s.words (count + length edges)

  module _ (k : ℕ) (is : slice_index s.words (count + length edges) ≡ k) where
    before : IsView count edges me.0
    before = holds.seats id me.0 here

    tickets : HasTickets count edges k (draws s.views) (drawn_numbers s.views) (uses s.views)
    tickets = subst (λ x. HasTickets count edges x (draws s.views) (drawn_numbers s.views)
        (uses s.views)) is holds.tickets

    no_ticket : draws s.views n ≡ 0
    no_ticket =
        let less = total_less (λ (v : View). tickets_for n v.tickets)
        (λ (v : View). times n v.claimed) s.views id me.0 (λ j v at. (holds.seats j v at).drawn n) here
        (omega arith) in
        let once = holds.counters.once n in omega arith

    none_numbered : drawn_numbers s.views n ≡ 0
    none_numbered = total_none (λ (v : View). ticket_number n v.tickets) (λ (v : View). tickets_for n v.tickets) s.views
        (λ j v at z. no_number n v.tickets z) no_ticket

    draws_here : draws (set s.views id (with_ticket me.0 n k)) n ≡ suc (draws s.views n)
    draws_here = let h = sum_set (λ (v : View). tickets_for n v.tickets) s.views id me.0
        (with_ticket me.0 n k) here in let t = ticket_here k me.0.tickets n in omega arith

    draws_else : (m : ℕ) → (m ≡ n → ⊥) → draws (set s.views id (with_ticket me.0 n k)) m ≡ draws s.views m
    draws_else m ne = let h =
        sum_set (λ (v : View). tickets_for m v.tickets) s.views id me.0 (with_ticket me.0 n k) here in
        let t = ticket_else k me.0.tickets m n ne in omega arith

    numbers_here : drawn_numbers (set s.views id (with_ticket me.0 n k)) n ≡ k
    numbers_here = let h =
        sum_set (λ (v : View). ticket_number n v.tickets) s.views id me.0 (with_ticket me.0 n k) here in
        let t = number_here k me.0.tickets n in let z = none_numbered in omega arith

    numbers_else : (m : ℕ) → (m ≡ n → ⊥)
        → drawn_numbers (set s.views id (with_ticket me.0 n k)) m ≡ drawn_numbers s.views m
    numbers_else m ne = let h =
        sum_set (λ (v : View). ticket_number m v.tickets) s.views id me.0 (with_ticket me.0 n k) here in
        let t = number_else k me.0.tickets m n ne in omega arith

    uses_here : uses (set s.views id (with_ticket me.0 n k)) k ≡ suc (uses s.views k)
    uses_here = let h = sum_set (λ (v : View). tickets_with k v.tickets) s.views id me.0
        (with_ticket me.0 n k) here in let t = used_here k me.0.tickets n in omega arith

    uses_else : (j : ℕ) → (j ≡ k → ⊥) → uses (set s.views id (with_ticket me.0 n k)) j ≡ uses s.views j
    uses_else j ne = let h =
        sum_set (λ (v : View). tickets_with j v.tickets) s.views id me.0 (with_ticket me.0 n k) here in
        let t = used_else k me.0.tickets j n ne in omega arith

    drawn_once : (m : ℕ) → draws s.views m ≤ 1
    drawn_once m = let a = drawn_claimed count edges result s holds m in let b = holds.counters.once m in omega arith

    pub few : k < count
    few = let a = below_short (draws s.views) count n drawn_once node no_ticket in let b = tickets.counted in
        omega arith

    pub unused : tickets_with k me.0.tickets ≡ 0
    unused = let a = sum_at (λ (v : View). tickets_with k v.tickets) s.views id me.0 here in
        let b = tickets.above k (omega arith) in omega arith

    -- the source of an edge that someone fetched has a ticket
    source_drawn : (e : ℕ) → e < length edges → 1 ≤ fetches s.views e → 1 ≤ draws s.views (edge_source edges e)
    source_drawn e inside le = let a = holds.states.order e in
        let b = filled_drawn count edges result s holds e inside in omega arith

    rises_here : (e : ℕ) → e < length edges → edge_target edges e ≡ n
        → drawn_numbers (set s.views id (with_ticket me.0 n k)) (edge_source edges e) < drawn_numbers
        (set s.views id (with_ticket me.0 n k)) (edge_target edges e)
    rises_here e inside to =
        let f = ready e inside to in
        let some_fetch = sum_at (λ (v : View). times e v.fetched) s.views id me.0 here in
        let d = source_drawn e inside (omega arith) in
        let other : edge_source edges e ≡ n → ⊥ = λ same. let z : draws s.views (edge_source edges e) ≡ 0 =
        ap (draws s.views) same ∙ no_ticket in absurd (omega arith) in
        let a = numbers_else (edge_source edges e) other in
        let b : drawn_numbers (set s.views id (with_ticket me.0 n k)) (edge_target edges e) ≡ k =
        ap (drawn_numbers (set s.views id (with_ticket me.0 n k))) to ∙ numbers_here in
        let c = tickets.numbered (edge_source edges e) d in omega arith

    rises_else : (e : ℕ) → e < length edges → (edge_target edges e ≡ n → ⊥)
        → 1 ≤ draws (set s.views id (with_ticket me.0 n k)) (edge_target edges e)
        → drawn_numbers (set s.views id (with_ticket me.0 n k)) (edge_source edges e) < drawn_numbers
        (set s.views id (with_ticket me.0 n k)) (edge_target edges e)
    rises_else e inside ne le =
        let same = draws_else (edge_target edges e) ne in
        let g = drawn_fetched count edges result s holds e inside in
        let d = source_drawn e inside (omega arith) in
        let other : edge_source edges e ≡ n → ⊥ = λ same. let z : draws s.views (edge_source edges e) ≡ 0 =
        ap (draws s.views) same ∙ no_ticket in absurd (omega arith) in
        let a = numbers_else (edge_source edges e) other in let b = numbers_else (edge_target edges e) ne in
        let c = tickets.rises e inside (omega arith) in omega arith

    tickets_after : HasTickets count edges (suc k) (draws (set s.views id (with_ticket me.0 n k)))
        (drawn_numbers (set s.views id (with_ticket me.0 n k))) (uses (set s.views id (with_ticket me.0 n k)))
    tickets_after = record {
      counted = let a = below_more (draws s.views)
          (draws (set s.views id (with_ticket me.0 n k))) count n node draws_here draws_else in
          let b = tickets.counted in omega arith;
      below = λ j l. dite (ℕ_discrete j k)
          (λ same. ap (uses (set s.views id (with_ticket me.0 n k))) same ∙ uses_here
          ∙ ap suc (tickets.above k (omega arith)))
          (λ ne. uses_else j ne ∙ tickets.below j (omega arith));
      above = λ j l. uses_else j (λ same. omega arith) ∙ tickets.above j (omega arith);
      numbered = λ m le. dite (ℕ_discrete m n)
          (λ same. let a : drawn_numbers (set s.views id (with_ticket me.0 n k)) m ≡ k =
          ap (drawn_numbers (set s.views id (with_ticket me.0 n k))) same ∙ numbers_here in omega arith)
          (λ ne. let a = numbers_else m ne in let d = draws_else m ne in let b = tickets.numbered m (omega arith) in
          omega arith);
      rises = λ e inside le. dite (ℕ_discrete (edge_target edges e) n) (λ same. rises_here e inside same)
          (λ ne. rises_else e inside ne le);
    }

    view_after : IsView count edges (with_ticket me.0 n k)
    view_after = record {
      idle = λ z. absurd (omega arith);
      nodes = before.nodes;
      ends = before.ends;
      subtracted = before.subtracted;
      sourced = λ e l. let h = before.sourced e l in omega arith;
      drawn = λ m. dite (ℕ_discrete m n)
          (λ same. subst (λ x. tickets_for x ((n, k) ∷ me.0.tickets) ≤ times x me.0.claimed) (sym same)
          (let t = ticket_here k me.0.tickets n in omega arith))
          (λ ne. let t = ticket_else k me.0.tickets m n ne in let h = before.drawn m in omega arith);
      gathered = λ e l. dite (ℕ_discrete (edge_target edges e) n)
          (λ same. let a : tickets_for (edge_target edges e) ((n, k) ∷ me.0.tickets) ≡ 1 + tickets_for n me.0.tickets =
          ap (λ x. tickets_for x ((n, k) ∷ me.0.tickets)) same ∙ ticket_here k me.0.tickets n in
          let r = ready e l same in omega arith)
          (λ ne. let t = ticket_else k me.0.tickets (edge_target edges e) n ne in
          let h = before.gathered e l in
          omega arith);
      targeted = before.targeted;
    }

    pub ticketed_state : IsBoard count edges result record {
      words =
          set s.words (count + length edges) (suc k);
      homes = s.homes;
      views = set s.views id (with_ticket me.0 n k);
    }
    ticketed_state = at_ticket count edges result s holds id me.0
        (with_ticket me.0 n k) here view_after refl refl refl refl refl refl (suc k) tickets_after

    pub raised_word : raised k ≡ suc k
    raised_word = let f = few in raised_is k (omega arith)

pub ticket_allows : {O A : Type 0} (count : ℕ) (edges : List PlanEdge) (result : ℕ → NodeResult O) (slots id n : ℕ)
    (me : Me (Option (Arc (Published O) A)) View) → count < 4294967296 → n < count → 1 ≤ me.0.weight
    → 1 ≤ times n me.0.claimed → ((e : ℕ) → e < length edges → edge_target edges e ≡ n → 1 ≤ times e me.0.fetched)
    → tickets_for n me.0.tickets ≡ 0
    → Allows (IsBoard count edges result) slots id me (count + length edges) raised (Draws count n me)
ticket_allows count edges result slots id n me small node live claimed ready fresh s holds many here tiny =
    let k = slice_index s.words (count + length edges) in (
      with_ticket me.0 n (slice_index s.words (count + length edges)),
      keeps,
      tt,
      subst (λ x. IsBoard count edges result record {
        words = set s.words (count + length edges) x;
        homes =
            s.homes;
        views = set s.views id (with_ticket me.0 n (slice_index s.words (count + length edges)));
      })
          (sym (raised_word count edges result id n me small node live claimed ready fresh s holds here
          (slice_index s.words (count + length edges)) refl))
          (ticketed_state count edges result id n me small node live claimed ready fresh s holds here
          (slice_index s.words (count + length edges)) refl),
      (
        refl,
        refl,
        few count edges result id n me small node live claimed ready fresh s holds here
            (slice_index s.words (count + length edges)) refl,
        unused count edges result id n me small node live claimed ready fresh s holds here
            (slice_index s.words (count + length edges)) refl,
      ),
    )
