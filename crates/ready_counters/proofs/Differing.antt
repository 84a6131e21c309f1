-- No two tickets have one number.
use Rattle.std.proofs.Common.{◌≡◌, ◌+◌, ◌≤◌, ℕ, List, length, refl, arith, sym, subst, Option}
use Rattle.std.specs.Prelude.{slice_index}
use Rattle.std.specs.declared.sync.Arc.{Arc}
use mathlib.Core.Option.{some}
use mathlib.Core.Logic.{dite}
use Rattle.std.proofs.Math.Decide.{dec_lt}
use Rattle.std.proofs.lemmas.List.{set-get_or}
use lib.ListN.{get_elem?}
use Rattle.atomic_table.specs.Table.{State, Me, keeps, Allows, stepped}
use Rattle.atomic_table.proofs.Lists.{set_again}
use Rattle.serial_pass.specs.declared.plan.PlanEdge.{PlanEdge}
use Rattle.pass_core.specs.declared.published.Published.{Published}
use Rattle.serial_pass.specs.Results.{NodeResult}
use Rattle.ready_counters.specs.declared.view.View.{View}
use Rattle.ready_counters.specs.Meaning.{IsBoard}
use Rattle.ready_counters.specs.Sums.{uses}
use Rattle.ready_counters.specs.Views.{tickets_for, tickets_with}
use Rattle.ready_counters.specs.Inside.{Differs}
use Rattle.ready_counters.proofs.Sums.{sum_at}
use Rattle.ready_counters.proofs.Knowing.{drawn_claimed}

module _ {O A : Type 0} (count : ℕ) (edges : List PlanEdge) (result : ℕ → NodeResult O)
    (s : State (Option (Arc (Published O) A)) View) (holds : IsBoard count edges result s) where
  used_once : (k : ℕ) → uses s.views k ≤ 1
  used_once k = dite (dec_lt k (slice_index s.words (count + length edges)))
      (λ lt. let a = holds.tickets.below k lt in omega arith)
      (λ no. let a = holds.tickets.above k (omega arith) in omega arith)

  pub differ : (id : ℕ) (v : View) → get_elem? s.views id ≡ some v → (k : ℕ) → tickets_with k v.tickets ≤ 1
  differ id v here k = let a = sum_at (λ (u : View). tickets_with k u.tickets) s.views id v here in
      let b = used_once k in omega arith

  pub single : (id : ℕ) (v : View) → get_elem? s.views id ≡ some v → (n : ℕ) → tickets_for n v.tickets ≤ 1
  single id v here n =
      let a = sum_at (λ (u : View). tickets_for n u.tickets) s.views id v here in
      let b = drawn_claimed count edges result s holds n in let c = holds.counters.once n in omega arith

  same_state : (id word : ℕ) (me : Me (Option (Arc (Published O) A)) View) → get_elem? s.views id ≡ some me.0
      → IsBoard count edges result (stepped s word (slice_index s.words word) id me.1 me.0 keeps)
  same_state id word me here =
      subst (λ (t : State (Option (Arc (Published O) A)) View). IsBoard count edges result t)
      (λ j. record {
        words = sym (set-get_or s.words word 0) j;
        homes = s.homes;
        views =
            sym (set_again s.views id me.0 here) j;
      }) holds

pub differ_allows : {O A : Type 0} (count : ℕ) (edges : List PlanEdge) (result : ℕ → NodeResult O) (slots id word : ℕ)
    (me : Me (Option (Arc (Published O) A)) View)
    → Allows (IsBoard count edges result) slots id me word (λ x. x) (λ _ after. Differs me after)
differ_allows count edges result slots id word me s holds many here small = (
  me.0,
  keeps,
  tt,
  same_state count edges result s holds id word me here,
  (refl, refl, differ count edges result s holds id me.0 here, single count edges result s holds id me.0 here),
)
