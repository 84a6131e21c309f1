-- A subtraction keeps the rule.
use Rattle.std.proofs.Common.{◌≡◌, ◌+◌, ◌-◌, ◌%◌, ◌^◌, ◌<◌, ◌≤◌, ℕ, zero, suc, List, [], ◌∷◌, length, set}
use Rattle.std.proofs.Common.{get_or-set_same, get_or-set_other, refl, ap, arith, ◌∙◌, sym, subst, zero-add, Option}
use Rattle.std.specs.Prelude.{slice_index}
use Rattle.std.specs.declared.sync.Arc.{Arc}
use mathlib.Core.Option.{some}
use mathlib.Core.Logic.{dite}
use native.Mathlib.Decide.{ℕ_discrete}
use lib.ListN.{get_elem?}
use Rattle.atomic_table.specs.Table.{State, Me, keeps, stepped, Allows}
use Rattle.serial_pass.specs.declared.plan.PlanEdge.{PlanEdge}
use Rattle.pass_core.specs.declared.published.Published.{Published}
use Rattle.serial_pass.specs.Results.{NodeResult}
use Rattle.ready_counters.specs.declared.view.View.{View}
use Rattle.ready_counters.specs.Edges.{left_from, edge_target, edge_source}
use Rattle.ready_counters.specs.Meaning.{HasWord, IsView, IsBoard}
use Rattle.ready_counters.specs.Sums.{claims, subtractions}
use Rattle.ready_counters.specs.Views.{times}
use Rattle.ready_counters.specs.Inside.{Lowered, Subtracts}
use Rattle.ready_counters.specs.Views.{with_subtract}
use Rattle.ready_counters.proofs.Sums.{sum_set, sum_same, total_less, times_here, times_else}
use Rattle.ready_counters.proofs.Left.{left_less, left_else}
use Rattle.ready_counters.proofs.Frames.{word_same, at_node}
use Rattle.ready_counters.proofs.Knowing.{still_free, word_free, subtracted_claimed, left_within, left_sole}

-- a word that is one less
abbrev pub lowered : ℕ → ℕ
lowered x = (x + (2 ^ 64 - 1)) % 2 ^ 64

lowered_is : (x : ℕ) → 1 ≤ x → x < 2 ^ 64 → lowered x + 1 ≡ x
lowered_is x l u = omega arith

module _ {O A : Type 0} (count : ℕ) (edges : List PlanEdge) (result : ℕ → NodeResult O) (id e : ℕ)
    (me : Me (Option (Arc (Published O) A)) View) (inside : e < length edges) (node : edge_target edges e < count)
    (live : 1 ≤ me.0.weight)
    (filled : 1 ≤ times e me.0.filled) (fresh : times e me.0.subtracted ≡ 0)
    (s : State (Option (Arc (Published O) A)) View) (holds : IsBoard count edges result s)
    (here : get_elem? s.views id ≡ some me.0) where
  many : edge_target edges e < length s.words
  many = subst (λ k. edge_target edges e < k) (sym holds.many_words) (omega arith)

  before : IsView count edges me.0
  before = holds.seats id me.0 here

  pub none_yet : subtractions s.views e ≡ 0
  none_yet =
      let a = before.sourced e inside in let b = before.drawn (edge_source edges e) in
      let less = total_less (λ (v : View). times e v.subtracted)
      (λ (v : View). times (edge_source edges e) v.claimed) s.views id me.0
      (subtracted_claimed count edges result s holds e inside) here (omega arith) in
      let once = holds.counters.once (edge_source edges e) in omega arith

  view_after : IsView count edges (with_subtract me.0 e)
  view_after = record {
    idle = λ z. absurd (omega arith);
    nodes = before.nodes;
    ends = before.ends;
    subtracted = λ x. dite (ℕ_discrete x e)
        (λ same. subst (λ y. times y (e ∷ me.0.subtracted) ≤ times y me.0.filled) (sym same)
        (let t = times_here e me.0.subtracted in omega arith))
        (λ ne. let t = times_else x e me.0.subtracted ne in let h = before.subtracted x in omega arith);
    sourced = before.sourced;
    drawn = before.drawn;
    gathered = before.gathered;
    targeted = before.targeted;
  }

  claims_after : (m : ℕ) → claims (set s.views id (with_subtract me.0 e)) m ≡ claims s.views m
  claims_after m = sum_same (λ (v : View). times m v.claimed) s.views id me.0 (with_subtract me.0 e) here refl

  pub one_now : subtractions (set s.views id (with_subtract me.0 e)) e ≡ 1
  one_now =
      let h = sum_set (λ (v : View). times e v.subtracted) s.views id me.0 (with_subtract me.0 e) here in
      let t = times_here e me.0.subtracted in let z = none_yet in omega arith

  pub others_now : (x : ℕ) → (x ≡ e → ⊥)
      → subtractions (set s.views id (with_subtract me.0 e)) x ≡ subtractions s.views x
  others_now x ne =
      let h = sum_set (λ (v : View). times x v.subtracted) s.views id me.0 (with_subtract me.0 e) here in
      let t = times_else x e me.0.subtracted ne in omega arith

  pub one_less : left_from (subtractions (set s.views id (with_subtract me.0 e))) 0 edges
      (edge_target edges e) + 1 ≡ left_from (subtractions s.views) 0 edges (edge_target edges e)
  one_less = left_less (subtractions s.views) (subtractions (set s.views id (with_subtract me.0 e))) 0 e edges
      (edge_target edges e) inside refl
      (ap (subtractions s.views) (zero-add e) ∙ none_yet)
      (let a = ap (subtractions (set s.views id (with_subtract me.0 e))) (zero-add e) in let b = one_now in
      omega arith) (λ x ne. others_now x (λ is. ne (is ∙ sym (zero-add e))))

  as_many : (m : ℕ) → (m ≡ edge_target edges e → ⊥)
      → left_from (subtractions (set s.views id (with_subtract me.0 e))) 0 edges m ≡ left_from
      (subtractions s.views) 0 edges m
  as_many m ne = left_else (subtractions s.views)
      (subtractions (set s.views id (with_subtract me.0 e))) 0 e edges m inside (λ is. ne (sym is))
      (λ x ne. others_now x (λ is. ne (is ∙ sym (zero-add e))))

  pub the_word : (claims s.views (edge_target edges e) ≡ 0)
      × (slice_index s.words (edge_target edges e) ≡ left_from (subtractions s.views) 0 edges (edge_target edges e))
  the_word = let o = one_less in still_free _ _ _ (holds.counters.words (edge_target edges e) node) (omega arith)

  module _ (small : slice_index s.words (edge_target edges e) < 18446744073709551616) where
    new_word : lowered (slice_index s.words (edge_target edges e)) ≡ left_from
        (subtractions (set s.views id (with_subtract me.0 e))) 0 edges (edge_target edges e)
    new_word = let w = the_word.1 in let o = one_less in
        let l = lowered_is (slice_index s.words (edge_target edges e)) (omega arith) small in omega arith

    pub lowered_state : IsBoard count edges result
        (stepped s (edge_target edges e) (lowered (slice_index s.words (edge_target edges e))) id me.1
        (with_subtract me.0 e) keeps)
    lowered_state =
        at_node count edges result s holds id me.0 (with_subtract me.0 e) here view_after refl refl refl refl refl
        (edge_target edges e) (lowered (slice_index s.words (edge_target edges e))) node
        (record {
          once = λ m. subst (λ x. x ≤ 1) (sym (claims_after m)) (holds.counters.once m);
          words = λ m lm. dite (ℕ_discrete m (edge_target edges e))
              (λ same. subst (λ x. HasWord (claims (set s.views id (with_subtract me.0 e)) x)
              (slice_index (set s.words (edge_target edges e) (lowered (slice_index s.words (edge_target edges e)))) x)
              (left_from (subtractions (set s.views id (with_subtract me.0 e))) 0 edges x)) (sym same)
              (word_free _ _ _ (claims_after (edge_target edges e) ∙ the_word.0)
              (get_or-set_same s.words (edge_target edges e)
              (lowered (slice_index s.words (edge_target edges e))) 0 many
              ∙ new_word)))
              (λ ne. word_same _ _ _ _ _ _ (claims_after m)
              (get_or-set_other s.words (edge_target edges e) m
              (lowered (slice_index s.words (edge_target edges e))) 0 ne)
              (as_many m ne) (holds.counters.words m lm));
        })

    after_at : get_elem? (set s.views id (with_subtract me.0 e)) id ≡ some (with_subtract me.0 e)
    after_at = set_there s.views id me.0 (with_subtract me.0 e) here where
      set_there : (vs : List View) (i : ℕ) (v w : View) → get_elem? vs i ≡ some v → get_elem? (set vs i w) i ≡ some w
      set_there [] i v w at = absurd (mathlib.Core.Option.some-ne-none v (sym at))
      set_there (x ∷ xs) zero v w at = refl
      set_there (x ∷ xs) (suc i) v w at = set_there xs i v w at

    pub learnt : Lowered edges e (with_subtract me.0 e) (slice_index s.words (edge_target edges e))
    learnt =
        let w = the_word.1 in let o = one_less in record {
          some_left = omega arith;
          left = let a = left_within count edges result
              (stepped s (edge_target edges e) (lowered (slice_index s.words (edge_target edges e))) id me.1
              (with_subtract me.0 e) keeps) lowered_state id (with_subtract me.0 e) after_at (edge_target edges e) in
              omega arith;
          exact = λ heavy. let a =
              left_sole count edges result
              (stepped s (edge_target edges e) (lowered (slice_index s.words (edge_target edges e))) id me.1
              (with_subtract me.0 e) keeps) lowered_state id (with_subtract me.0 e) after_at heavy
              (edge_target edges e) in
              omega arith;
        }

pub subtract_allows : {O A : Type 0} (count : ℕ) (edges : List PlanEdge) (result : ℕ → NodeResult O) (slots id e : ℕ)
    (me : Me (Option (Arc (Published O) A)) View) → e < length edges → edge_target edges e < count → 1 ≤ me.0.weight
    → 1 ≤ times e me.0.filled → times e me.0.subtracted ≡ 0
    → Allows (IsBoard count edges result) slots id me (edge_target edges e) lowered (Subtracts edges e me)
subtract_allows count edges result slots id e me inside node live filled fresh s holds _ here small = (
  with_subtract me.0 e,
  keeps,
  tt,
  lowered_state count edges result id e me inside node live filled fresh s holds here small,
  (refl, refl, learnt count edges result id e me inside node live filled fresh s holds here small),
)
