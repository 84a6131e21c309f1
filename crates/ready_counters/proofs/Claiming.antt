-- A claim keeps the rule.
use Rattle.std.proofs.Common.{◌≡◌, ◌+◌, ◌<◌, ◌≤◌, ◌==◌, ℕ, zero, suc, List, ◌∷◌, length, set, get_or-set_same}
use Rattle.std.proofs.Common.{get_or-set_other, refl, ap, arith, ◌∙◌, sym, subst, Bool, true, false, Option}
use Rattle.std.specs.Prelude.{slice_index}
use Rattle.std.proofs.lemmas.Bool.Decides.{nat_tests}
use Rattle.std.proofs.lemmas.List.{set-get_or}
use Rattle.std.specs.declared.sync.Arc.{Arc}
use mathlib.Core.Option.{some}
use mathlib.Core.Logic.{dite}
use native.Mathlib.Decide.{ℕ_discrete}
use prog.Atomic.{either}
use lib.ListN.{get_elem?}
use Rattle.atomic_table.specs.Table.{State, Me, Act, keeps, Valid, stepped, Allows, carried_after}
use Rattle.atomic_table.proofs.Lists.{set_again}
use Rattle.serial_pass.specs.declared.plan.PlanEdge.{PlanEdge}
use Rattle.pass_core.specs.declared.published.Published.{Published}
use Rattle.serial_pass.specs.Results.{NodeResult}
use Rattle.ready_counters.specs.declared.view.View.{View}
use Rattle.ready_counters.specs.Edges.{left_from, edge_target, edge_source}
use Rattle.ready_counters.specs.Meaning.{claimed_word, HasWord, IsView, IsBoard}
use Rattle.ready_counters.specs.Sums.{claims, subtractions}
use Rattle.ready_counters.specs.Views.{times}
use Rattle.ready_counters.specs.Inside.{Found, Claims}
use Rattle.ready_counters.specs.Views.{with_claim}
use Rattle.ready_counters.proofs.Sums.{sum_set, sum_same, sum_at, total_less, times_here, times_else}
use Rattle.ready_counters.proofs.Left.{left_same, left_bound}
use Rattle.ready_counters.proofs.Frames.{word_same, at_node}
use Rattle.ready_counters.proofs.Knowing.{times_grow, not_taken, is_taken, word_taken, subtracted_claimed}
use Rattle.ready_counters.proofs.Knowing.{claimed_subtracted, sole, left_within, left_sole}

module _ {O A : Type 0} (count : ℕ) (edges : List PlanEdge) (few : length edges < 4294967296)
    (result : ℕ → NodeResult O) (id n : ℕ) (me : Me (Option (Arc (Published O) A)) View) (node : n < count)
    (live : 1 ≤ me.0.weight)
    (s : State (Option (Arc (Published O) A)) View) (holds : IsBoard count edges result s)
    (here : get_elem? s.views id ≡ some me.0) where
  many : n < length s.words
  many = subst (λ k. n < k) (sym holds.many_words) (omega arith)

  has_word : HasWord (claims s.views n) (slice_index s.words n) (left_from (subtractions s.views) 0 edges n)
  has_word = holds.counters.words n node

  few_left : left_from (subtractions s.views) 0 edges n < 4294967296
  few_left = let b = left_bound (subtractions s.views) 0 edges n in omega arith

  -- what the word found says
  learnt : (found : ℕ) → slice_index s.words n ≡ found → Found edges n me.0 found
  learnt found is = record {
    fresh = λ ne. let z = (not_taken _ _ _ has_word (λ t. ne (sym is ∙ t))).0 in
        let a = sum_at (λ (v : View). times n v.claimed) s.views id me.0 here in omega arith;
    left = λ ne. let z = (not_taken _ _ _ has_word (λ t. ne (sym is ∙ t))).1 in
        let a = left_within count edges result s holds id me.0 here n in omega arith;
    gone = λ t e inside to mine.
        let all = claimed_subtracted count edges result s holds n node
        ((is_taken _ _ _ has_word few_left (is ∙ t)).0) e inside to in
        dite (ℕ_discrete (times e me.0.subtracted) 0)
        (λ z. let l = total_less (λ (v : View). times e v.subtracted)
        (λ (v : View). times (edge_source edges e) v.claimed) s.views id me.0
        (subtracted_claimed count edges result s holds e inside) here (omega arith) in
        let o = holds.counters.once (edge_source edges e) in absurd (omega arith))
        (λ ne. omega arith);
    exact = λ heavy. word_same _ _ _ _ _ _
        (sym (sole count edges result s holds id me.0 here (λ (v : View). times n v.claimed) refl heavy)) (sym is)
        (sym (left_sole count edges result s holds id me.0 here heavy n)) has_word;
  }

  before : IsView count edges me.0
  before = holds.seats id me.0 here

  view_after : IsView count edges (with_claim me.0 n)
  view_after = record {
    idle = λ z. absurd (omega arith);
    nodes = λ m le. times_else m n me.0.claimed (λ is. omega arith) ∙ before.nodes m le;
    ends = before.ends;
    subtracted = before.subtracted;
    sourced = before.sourced;
    drawn = λ m. let h = before.drawn m in let t = times_grow m n me.0.claimed in omega arith;
    gathered = before.gathered;
    targeted =
        λ e l. let h = before.targeted e l in let t = times_grow (edge_target edges e) n me.0.claimed in omega arith;
  }

  claims_after : (m : ℕ)
      → claims (set s.views id (with_claim me.0 n)) m + times m me.0.claimed ≡ claims s.views m + times m
      (n ∷ me.0.claimed)
  claims_after m = sum_set (λ (v : View). times m v.claimed) s.views id me.0 (with_claim me.0 n) here

  claims_here : claims (set s.views id (with_claim me.0 n)) n ≡ claims s.views n + 1
  claims_here = let h = claims_after n in let t = times_here n me.0.claimed in omega arith

  claims_else : (m : ℕ) → (m ≡ n → ⊥) → claims (set s.views id (with_claim me.0 n)) m ≡ claims s.views m
  claims_else m ne = let h = claims_after m in let t = times_else m n me.0.claimed ne in omega arith

  left_after : (m : ℕ) → left_from (subtractions (set s.views id (with_claim me.0 n))) 0 edges m ≡ left_from
      (subtractions s.views) 0 edges m
  left_after m = left_same (subtractions s.views) (subtractions (set s.views id (with_claim me.0 n))) edges m
      (λ e. sum_same (λ (v : View). times e v.subtracted) s.views id me.0 (with_claim me.0 n) here refl)

  claimed_state : slice_index s.words n ≡ 0
      → IsBoard count edges result (stepped s n claimed_word id me.1 (with_claim me.0 n) keeps)
  claimed_state free =
      let none = not_taken _ _ _ has_word (λ t. let e : 0 ≡ claimed_word = sym free ∙ t in absurd (omega arith)) in
      at_node count edges result s holds id me.0
      (with_claim me.0 n) here view_after refl refl refl refl refl n claimed_word node
      (record {
        once = λ m. dite (ℕ_discrete m n)
            (λ same. subst (λ x. claims (set s.views id (with_claim me.0 n)) x ≤ 1) (sym same)
            (let h = claims_here in let z = none.0 in omega arith))
            (λ ne. let h = claims_else m ne in let o = holds.counters.once m in omega arith);
        words = λ m lm. dite (ℕ_discrete m n)
            (λ same. subst (λ x. HasWord (claims (set s.views id (with_claim me.0 n)) x)
            (slice_index (set s.words n claimed_word) x)
            (left_from (subtractions (set s.views id (with_claim me.0 n))) 0 edges x)) (sym same)
            (word_taken _ _ _ (let h = claims_here in omega arith) (get_or-set_same s.words n claimed_word 0 many)
            (left_after n ∙ sym none.1 ∙ free)))
            (λ ne.
            word_same _ _ _ _ _ _ (claims_else m ne) (get_or-set_other s.words n m claimed_word 0 ne) (left_after m)
            (holds.counters.words m lm));
      })

  pub same_state : (i found : ℕ) → slice_index s.words i ≡ found
      → IsBoard count edges result (stepped s i found id me.1 me.0 keeps)
  same_state i found is =
      let same : set s.words i found ≡ s.words = ap (set s.words i) (sym is) ∙ set-get_or s.words i 0 in
      subst (λ (t : State (Option (Arc (Published O) A)) View). IsBoard count edges result t)
      (λ j. record { words = sym same j; homes = s.homes; views = sym (set_again s.views id me.0 here) j }) holds

  claim_goes : (found : ℕ) → slice_index s.words n ≡ found → (b : Bool) → (found == 0) ≡ b
      → (w : View) × (a : Act (Option (Arc (Published O) A))) × Valid s.homes me.1 a
      × IsBoard count edges result (stepped s n (either b claimed_word found) id me.1 w a)
      × Claims edges n me found (w, carried_after me.1 a)
  claim_goes zero is true zero_is = (with_claim me.0 n, keeps, tt, claimed_state is, (refl, refl, learnt zero is))
  claim_goes (suc k) is true zero_is = absurd (grind (arith, nat_tests))
  claim_goes zero is false zero_is = absurd (grind (arith, nat_tests))
  claim_goes (suc k) is false zero_is = (me.0, keeps, tt, same_state n (suc k) is, (refl, refl, learnt (suc k) is))

pub claim_allows : {O A : Type 0} (count : ℕ) (edges : List PlanEdge) (result : ℕ → NodeResult O) (slots id n : ℕ)
    (me : Me (Option (Arc (Published O) A)) View) → length edges < 4294967296 → n < count → 1 ≤ me.0.weight
    → Allows (IsBoard count edges result) slots id me n (λ x. either (x == 0) claimed_word x) (Claims edges n me)
claim_allows count edges result slots id n me few node live s holds _ here small =
    claim_goes count edges few result id n me node live s holds here (slice_index s.words n) refl
    (slice_index s.words n == 0) refl
