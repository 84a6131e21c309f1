-- Splitting and joining seats keeps the rule, and so does the table at the start.
use Rattle.std.proofs.Common.{◌≡◌, ◌+◌, ◌≤◌, ◌++◌, ℕ, List, [], ◌∷◌, length, set, refl, ap, arith, ◌∙◌, subst, ⊎_elim}
use Rattle.std.proofs.Common.{Option}
use Rattle.std.specs.Prelude.{slice_index}
use Rattle.std.specs.declared.sync.Arc.{Arc}
use mathlib.Core.Option.{some}
use lib.ListN.{get_elem?}
use Rattle.atomic_table.specs.Table.{State, Splits, Joins}
use Rattle.atomic_table.proofs.Lists.{at_set, at_snoc}
use Rattle.serial_pass.specs.declared.plan.PlanEdge.{PlanEdge}
use Rattle.pass_core.specs.declared.published.Published.{Published}
use Rattle.serial_pass.specs.Results.{NodeResult}
use Rattle.ready_counters.specs.declared.view.View.{View}
use Rattle.ready_counters.specs.Edges.{edge_target, edge_source}
use Rattle.ready_counters.specs.Meaning.{IsView, IsBoard}
use Rattle.ready_counters.specs.Sums.{total_of}
use Rattle.ready_counters.specs.Views.{nothing, one, lighter, together, times, tickets_for, ticket_number, tickets_with}
use Rattle.ready_counters.proofs.Sums.{sum_set, sum_snoc, times_append, tickets_append, number_append, with_append}
use Rattle.ready_counters.proofs.Frames.{counters_same, tickets_same, edges_same}

module _ {O A : Type 0} (count : ℕ) (edges : List PlanEdge) (result : ℕ → NodeResult O)
    (s : State (Option (Arc (Published O) A)) View) (holds : IsBoard count edges result s) where
  -- other views that come to the same
  same_sums : (vs : List View) → ((j : ℕ) (u : View) → get_elem? vs j ≡ some u → IsView count edges u)
      → ((f : View → ℕ) → f nothing ≡ 0 → f one ≡ 0 → ((v : View) → f (lighter v) ≡ f v)
      → ((v w : View) → f (together v w) ≡ f v + f w) → total_of f vs ≡ total_of f s.views)
      → total_of (λ (v : View). v.weight) vs ≡ total_of (λ (v : View). v.weight) s.views
      → IsBoard count edges result record { words = s.words; homes = s.homes; views = vs }
  same_sums vs seats same heavy = record {
    many_words = holds.many_words;
    many_slots = holds.many_slots;
    weighed = heavy ∙ holds.weighed;
    seats = seats;
    counters = counters_same count edges _ _ _ _ _ _ (λ n l. refl)
        (λ n. same (λ (v : View). times n v.claimed) refl refl (λ v. refl) (λ v w. times_append n v.claimed w.claimed))
        (λ e. same (λ (v : View). times e v.subtracted) refl refl (λ v. refl)
        (λ v w. times_append e v.subtracted w.subtracted)) holds.counters;
    states = edges_same (length edges) result (λ e. slice_index s.words (count + e))
        (λ e. slice_index s.words (count + e)) (get_elem? s.homes) (get_elem? s.homes) _ _ _ _ _ _ (λ e l. refl)
        (λ e. refl)
        (λ e. same (λ (v : View). times e v.opened) refl refl (λ v. refl) (λ v w. times_append e v.opened w.opened))
        (λ e. same (λ (v : View). times e v.filled) refl refl (λ v. refl) (λ v w. times_append e v.filled w.filled))
        (λ e. same (λ (v : View). times e v.fetched) refl refl (λ v. refl)
        (λ v w. times_append e v.fetched w.fetched)) holds.states;
    tickets = tickets_same count edges _ _ _ _ _ _ _ _ refl
        (λ n. same (λ (v : View). tickets_for n v.tickets) refl refl (λ v. refl)
        (λ v w. tickets_append n v.tickets w.tickets))
        (λ n. same (λ (v : View). ticket_number n v.tickets) refl refl (λ v. refl)
        (λ v w. number_append n v.tickets w.tickets))
        (λ n. same (λ (v : View). tickets_with n v.tickets) refl refl (λ v. refl)
        (λ v w. with_append n v.tickets w.tickets)) holds.tickets;
  }

pub empty_view : (count : ℕ) (edges : List PlanEdge) (v : View) → (v.weight ≡ 0 → v ≡ nothing) → v.claimed ≡ []
    → v.opened ≡ [] → v.filled ≡ [] → v.subtracted ≡ [] → v.fetched ≡ [] → v.tickets ≡ [] → IsView count edges v
empty_view count edges v idle a b c d f t = record {
  idle = idle;
  nodes = λ n l. ap (times n) a;
  ends = λ e l. let x = ap (times e) b in let y = ap (times e) c in let z = ap (times e) f in omega arith;
  subtracted = λ e. let x = ap (times e) d in omega arith;
  sourced = λ e l. let x = ap (times e) b in let y = ap (times e) c in omega arith;
  drawn = λ n. let x = ap (tickets_for n) t in omega arith;
  gathered = λ e l. let x = ap (tickets_for (edge_target edges e)) t in omega arith;
  targeted = λ e l. let x = ap (times e) f in omega arith;
}

lighter_view : (count : ℕ) (edges : List PlanEdge) (v : View) → 2 ≤ v.weight → IsView count edges v
    → IsView count edges (lighter v)
lighter_view count edges v heavy h = record {
  idle = λ z. absurd (omega arith);
  nodes = h.nodes;
  ends = h.ends;
  subtracted = h.subtracted;
  sourced = h.sourced;
  drawn = h.drawn;
  gathered = h.gathered;
  targeted = h.targeted;
}

both_view : (count : ℕ) (edges : List PlanEdge) (v w : View) → 1 ≤ v.weight → IsView count edges v
    → IsView count edges w → IsView count edges (together v w)
both_view count edges v w live h k = record {
  idle = λ z. absurd (omega arith);
  nodes = λ n l. let t = times_append n v.claimed w.claimed in let a = h.nodes n l in let b = k.nodes n l in
      omega arith;
  ends = λ e l. let x = times_append e v.opened w.opened in let y = times_append e v.filled w.filled in
      let z = times_append e v.fetched w.fetched in let a = h.ends e l in let b = k.ends e l in omega arith;
  subtracted = λ e. let x = times_append e v.subtracted w.subtracted in let y = times_append e v.filled w.filled in
      let a = h.subtracted e in let b = k.subtracted e in omega arith;
  sourced = λ e l. let x = times_append e v.opened w.opened in let y = times_append e v.filled w.filled in
      let z = tickets_append (edge_source edges e) v.tickets w.tickets in let a = h.sourced e l in
      let b = k.sourced e l in omega arith;
  drawn = λ n. let x = tickets_append n v.tickets w.tickets in let y = times_append n v.claimed w.claimed in
      let a = h.drawn n in let b = k.drawn n in omega arith;
  gathered = λ e l. let x = tickets_append (edge_target edges e) v.tickets w.tickets in
      let y = times_append e v.fetched w.fetched in let a = h.gathered e l in let b = k.gathered e l in omega arith;
  targeted = λ e l. let x = times_append e v.fetched w.fetched in
      let y = times_append (edge_target edges e) v.claimed w.claimed in
      let a = h.targeted e l in
      let b = k.targeted e l in
      omega arith;
}

module _ {O A : Type 0} (count : ℕ) (edges : List PlanEdge) (result : ℕ → NodeResult O)
    (s : State (Option (Arc (Published O) A)) View) (holds : IsBoard count edges result s) (id : ℕ) (v : View)
    (here : get_elem? s.views id ≡ some v) where
  split_state : 2 ≤ v.weight
      → IsBoard count edges result record {
        words = s.words;
        homes = s.homes;
        views =
            set s.views id (lighter v) ++ one ∷ [];
      }
  split_state heavy = same_sums count edges result s holds (set s.views id (lighter v) ++ one ∷ [])
      (λ j u at. ⊎_elim
      (λ before. ⊎_elim (λ t. subst (λ (x : View). IsView count edges x) t.1
      (lighter_view count edges v heavy (holds.seats id v here))) (λ t. holds.seats j u t.1)
      (at_set s.views id j (lighter v) u before))
      (λ new. subst (λ (x : View). IsView count edges x) new
      (empty_view count edges one (λ z. absurd (omega arith)) refl refl refl refl refl refl))
      (at_snoc (set s.views id (lighter v)) one u j at))
      (λ f a b c d. let x = sum_set f s.views id v (lighter v) here in
      let y = sum_snoc f (set s.views id (lighter v)) one in let z = c v in omega arith)
      (let x = sum_set (λ (u : View). u.weight) s.views id v (lighter v) here in
      let y = sum_snoc (λ (u : View). u.weight) (set s.views id (lighter v)) one in omega arith)

  module _ (live : 1 ≤ v.weight) (other : ℕ) (w : View) (ne : ¬ (other ≡ id))
      (there : get_elem? (set s.views id (together v w)) other ≡ some w) where
    other_there : get_elem? s.views other ≡ some w
    other_there = ⊎_elim (λ t. absurd (ne t.0)) (λ t. t.1) (at_set s.views id other (together v w) w there)

    join_state : IsBoard count edges result record {
      words = s.words;
      homes = s.homes;
      views =
          set (set s.views id (together v w)) other nothing;
    }
    join_state = same_sums count edges result s holds (set (set s.views id (together v w)) other nothing)
        (λ j u at. ⊎_elim
        (λ t. subst (λ (x : View). IsView count edges x) t.1
        (empty_view count edges nothing (λ z. refl) refl refl refl refl refl refl))
        (λ t. ⊎_elim (λ t. subst (λ (x : View). IsView count edges x) t.1
        (both_view count edges v w live (holds.seats id v here) (holds.seats other w other_there)))
        (λ t. holds.seats j u t.1) (at_set s.views id j (together v w) u t.1))
        (at_set (set s.views id (together v w)) other j nothing u at))
        (λ f a b c d. let x = sum_set f s.views id v (together v w) here in
        let y = sum_set f (set s.views id (together v w)) other w nothing there in let z = d v w in omega arith)
        (let x = sum_set (λ (u : View). u.weight) s.views id v (together v w) here in
        let y = sum_set (λ (u : View). u.weight) (set s.views id (together v w)) other w nothing there in
        omega arith)

pub split_allows : {O A : Type 0} (count : ℕ) (edges : List PlanEdge) (result : ℕ → NodeResult O) (id : ℕ) (v : View)
    → 2 ≤ v.weight → Splits {S = Option (Arc (Published O) A)} (IsBoard count edges result) id v (lighter v) one
split_allows count edges result id v heavy s holds here = split_state count edges result s holds id v here heavy

pub join_allows : {O A : Type 0} (count : ℕ) (edges : List PlanEdge) (result : ℕ → NodeResult O) (id : ℕ) (v : View)
    (other : ℕ) (w : View) → 1 ≤ v.weight
    → Joins {S = Option (Arc (Published O) A)} (IsBoard count edges result) id v other w (together v w) nothing
join_allows count edges result id v other w live s holds here ne there =
    join_state count edges result s holds id v here live other w ne there
