-- What a whole seat with all tickets has done.
use Rattle.std.proofs.Common.{◌≡◌, ◌+◌, ◌<◌, ◌≤◌, ℕ, zero, suc, List, [], ◌∷◌, length, refl, ap, arith, ◌∙◌, sym, subst}
use Rattle.std.proofs.Common.{Option, Some}
use Rattle.std.specs.Prelude.{slice_index, slice_get}
use Rattle.std.proofs.lemmas.Bool.Decides.{nat_tests}
use Rattle.std.specs.declared.sync.Arc.{Arc}
use mathlib.Core.Option.{some}
use mathlib.Core.Logic.{dite}
use native.Mathlib.Decide.{ℕ_discrete}
use lib.ListN.{get_elem?}
use Rattle.atomic_table.specs.Table.{State}
use Rattle.serial_pass.specs.declared.plan.PlanEdge.{PlanEdge}
use Rattle.pass_core.specs.declared.published.Published.{Published}
use Rattle.serial_pass.specs.Results.{NodeResult}
use Rattle.serial_pass.specs.declared.plan.Plan.{Plan}
use Rattle.ready_counters.specs.declared.view.View.{View}
use Rattle.ready_counters.specs.Edges.{edge_target, edge_source}
use Rattle.ready_counters.specs.Meaning.{IsView, IsBoard}
use Rattle.ready_counters.specs.Sums.{claims, draws, drawn_numbers, uses}
use Rattle.ready_counters.specs.Views.{whole, times, tickets_for, ticket_number, tickets_with}
use Rattle.ready_counters.specs.Ends.{IsByTicket, IsDoneBy}
use Rattle.ready_counters.specs.Inside.{IsInOrder}
use Rattle.ready_counters.proofs.Sums.{ticket_here, ticket_else, number_here, number_else, no_number, below_all}
use Rattle.ready_counters.proofs.Sums.{times_here, times_else}
use Rattle.ready_counters.proofs.Knowing.{claimed_subtracted, sole}

-- a number that is on a ticket is some node's
pub user : (k : ℕ) (ts : List (ℕ × ℕ)) → ((n : ℕ) → tickets_for n ts ≤ 1) → 1 ≤ tickets_with k ts
    → (n : ℕ) × (1 ≤ tickets_for n ts) × (ticket_number n ts ≡ k)
user k [] once le = absurd (omega arith)
user k (t ∷ ts) once le = dite (ℕ_discrete t.1 k)
    (λ is. let a = ticket_here t.1 ts t.0 in let b = once t.0 in let c = number_here t.1 ts t.0 in
    let z = no_number t.0 ts (omega arith) in (t.0, omega arith, omega arith))
    (λ ne. let u = user k ts (λ n. let a = once n in omega arith) (grind (arith, nat_tests)) in
    let other : u.0 ≡ t.0 → ⊥ = λ is. let a = ticket_here t.1 ts t.0 in let b = once t.0 in
    let c : tickets_for u.0 ts ≡ tickets_for t.0 ts = ap (λ n. tickets_for n ts) is in let d = u.1 in
    absurd (omega arith) in
    let a = ticket_else t.1 ts u.0 t.0 other in let b = number_else t.1 ts u.0 t.0 other in let d = u.1 in
    let e = u.2 in (u.0, omega arith, omega arith))

Some_is : {X : Type 0} {x y : X} → Some x ≡ Some y → x ≡ y
Some_is e = cc

pub get_within : (xs : List ℕ) (i n : ℕ) → slice_get xs i ≡ Some n → i < length xs
get_within [] i n e = cc
get_within (x ∷ xs) zero n e = omega arith
get_within (x ∷ xs) (suc i) n e = let h = get_within xs i n e in omega arith

times_none : (xs : List ℕ) (n : ℕ) → ((j : ℕ) → slice_get xs j ≡ Some n → ⊥) → times n xs ≡ 0
times_none [] n h = refl
times_none (x ∷ xs) n h =
    let rest = times_none xs n (λ j e. h (suc j) e) in
    let ne : n ≡ x → ⊥ = λ is. h 0 (ap Some (sym is)) in
    times_else n x xs ne ∙ rest

times_one : (xs : List ℕ) (i n : ℕ) → slice_get xs i ≡ Some n → ((j : ℕ) → slice_get xs j ≡ Some n → j ≡ i)
    → times n xs ≡ 1
times_one [] i n e h = cc
times_one (x ∷ xs) zero n e h =
    let rest = times_none xs n (λ j at. let z = h (suc j) at in absurd (omega arith)) in
    let is : x ≡ n = Some_is e in let a : times n (x ∷ xs) ≡ times n (n ∷ xs) = ap (λ y. times n (y ∷ xs)) is in
    let b = times_here n xs in omega arith
times_one (x ∷ xs) (suc i) n e h =
    let rest = times_one xs i n e (λ j at. let z = h (suc j) at in omega arith) in
    let ne : n ≡ x → ⊥ = λ is. let z = h 0 (ap Some (sym is)) in absurd (omega arith) in
    times_else n x xs ne ∙ rest

module _ {O A : Type 0} (count : ℕ) (edges : List PlanEdge) (result : ℕ → NodeResult O)
    (s : State (Option (Arc (Published O) A)) View) (holds : IsBoard count edges result s) (id : ℕ) (v : View)
    (here : get_elem? s.views id ≡ some v) where
  module _ (heavy : v.weight ≡ whole) (ends : (e : ℕ) → e < length edges → edge_target edges e < count)
      (ticketed : (n : ℕ) → n < count → 1 ≤ tickets_for n v.tickets) where
    mine : IsView count edges v
    mine = holds.seats id v here

    claims_are : (n : ℕ) → claims s.views n ≡ times n v.claimed
    claims_are n = sole count edges result s holds id v here (λ (u : View). times n u.claimed) refl heavy

    draws_are : (n : ℕ) → draws s.views n ≡ tickets_for n v.tickets
    draws_are n = sole count edges result s holds id v here (λ (u : View). tickets_for n u.tickets) refl heavy

    numbers_are : (n : ℕ) → drawn_numbers s.views n ≡ ticket_number n v.tickets
    numbers_are n = sole count edges result s holds id v here (λ (u : View). ticket_number n u.tickets) refl heavy

    uses_are : (k : ℕ) → uses s.views k ≡ tickets_with k v.tickets
    uses_are k = sole count edges result s holds id v here (λ (u : View). tickets_with k u.tickets) refl heavy

    one_ticket : (n : ℕ) → tickets_for n v.tickets ≤ 1
    one_ticket n = let a = mine.drawn n in let b = holds.counters.once n in let c = claims_are n in omega arith

    pub claimed_once : (n : ℕ) → n < count → times n v.claimed ≡ 1
    claimed_once n l = let a = mine.drawn n in let t = ticketed n l in let b = holds.counters.once n in
        let c = claims_are n in omega arith

    word_is : slice_index s.words (count + length edges) ≡ count
    word_is = holds.tickets.counted
        ∙ below_all (draws s.views) count
        (λ n l. let a = draws_are n in let b = one_ticket n in let t = ticketed n l in omega arith)

    pub numbered_once : (k : ℕ) → k < count → tickets_with k v.tickets ≡ 1
    numbered_once k l = let w = word_is in let a = holds.tickets.below k (omega arith) in let b = uses_are k in
        omega arith

    module _ (order : List ℕ) (long : length order ≡ count)
        (listed : (n : ℕ) → n < count → slice_get order (ticket_number n v.tickets) ≡ Some n) where
      -- the entry at an index is the node whose ticket has that number
      at_index : (i n : ℕ) → slice_get order i ≡ Some n → (n < count) × (ticket_number n v.tickets ≡ i)
      at_index i n e =
          let l = get_within order i n e in let w = word_is in
          let used = holds.tickets.below i (omega arith) in let same = uses_are i in
          let u = user i v.tickets one_ticket (omega arith) in
          let un = u.1 in let node : u.0 < count = inside u.0 un in
          let is : u.0 ≡ n = Some_is (sym (listed u.0 node) ∙ ap (slice_get order) u.2 ∙ e) in
          (subst (λ x. x < count) is node, ap (λ x. ticket_number x v.tickets) (sym is) ∙ u.2) where
            inside : (m : ℕ) → 1 ≤ tickets_for m v.tickets → m < count
            inside m le = dite (native.Mathlib.Decide.dec_le count m)
                (λ out. let a = (mine).nodes m out in let b = (mine).drawn m in absurd (omega arith))
                (λ ne. omega arith)

      pub legal : IsInOrder count edges order
      legal = (
        (λ i n e. (at_index i n e).0),
        (λ n l. times_one order (ticket_number n v.tickets) n (listed n l) (λ j e. sym ((at_index j n e).1))),
        (λ e i j l a b.
            let f = (at_index i (edge_source edges e) a).1 in let t = (at_index j (edge_target edges e) b).1 in
            let d = draws_are (edge_target edges e) in let tk = ticketed (edge_target edges e) (ends e l) in
            let r = holds.tickets.rises e l (omega arith) in let x = numbers_are (edge_source edges e) in
            let y = numbers_are (edge_target edges e) in omega arith),
      )

    pub finished : (e : ℕ) → e < length edges
        → (times e v.filled ≡ 1) × (times e v.subtracted ≡ 1) × (times e v.fetched ≡ 1)
    finished e l =
        let t = ticketed (edge_target edges e) (ends e l) in let g = mine.gathered e l in let k = mine.targeted e l in
        let one = claimed_once (edge_target edges e) (ends e l) in
        let f = sole count edges result s holds id v here (λ (u : View). times e u.filled) refl heavy in
        let r = sole count edges result s holds id v here (λ (u : View). times e u.fetched) refl heavy in
        let b = sole count edges result s holds id v here (λ (u : View). times e u.subtracted) refl heavy in
        let o = holds.states.order e in
        let so = mine.sourced e l in let ot = one_ticket (edge_source edges e) in
        let cs = claimed_subtracted count edges result s holds (edge_target edges e) (ends e l)
        (let c = claims_are (edge_target edges e) in omega arith) e l refl in
        let sf = mine.subtracted e in
        (omega arith, omega arith, omega arith)

module _ {O A : Type 0} (plan planned : Plan) (same : planned ≡ plan) (result : Plan → ℕ → NodeResult O)
    (s : State (Option (Arc (Published O) A)) View) (holds : IsBoard planned.count planned.edges (result planned) s)
    (id : ℕ) (v w : View) (here : get_elem? s.views id ≡ some w) (is : w ≡ v)
    (heavy : v.weight ≡ whole) (ends : (e : ℕ) → e < length plan.edges → edge_target plan.edges e < plan.count)
    (ticketed : (n : ℕ) → n < plan.count → 1 ≤ tickets_for n v.tickets) where
  the_rule : IsBoard plan.count plan.edges (result plan) s
  the_rule = subst (λ (p : Plan). IsBoard p.count p.edges (result p) s) same holds

  the_view : get_elem? s.views id ≡ some v
  the_view = here ∙ ap some is

  pub is_done : IsDoneBy plan.count plan.edges v
  is_done = (
    (λ n l. claimed_once plan.count plan.edges (result plan) s the_rule id v the_view heavy ends ticketed n l),
    (λ e l. finished plan.count plan.edges (result plan) s the_rule id v the_view heavy ends ticketed e l),
  )

  pub are_numbered : (k : ℕ) → k < plan.count → tickets_with k v.tickets ≡ 1
  are_numbered k l = numbered_once plan.count plan.edges (result plan) s the_rule id v the_view heavy ends ticketed k l

  pub is_legal : (order : List ℕ) → IsByTicket plan.count v order → IsInOrder plan.count plan.edges order
  is_legal order by = legal plan.count plan.edges
      (result plan) s the_rule id v the_view heavy ends ticketed order by.0 by.1
