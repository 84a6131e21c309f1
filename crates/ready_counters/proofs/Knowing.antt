-- What a seat knows of all views by its own.
use Rattle.std.proofs.Common.{◌≡◌, ◌+◌, ◌<◌, ◌≤◌, ℕ, zero, suc, List, ◌∷◌, length, refl, ap, arith, ◌∙◌, sym, subst}
use Rattle.std.proofs.Common.{zero-add, Option}
use Rattle.std.specs.Prelude.{slice_index}
use Rattle.std.specs.declared.sync.Arc.{Arc}
use mathlib.Core.Option.{some}
use lib.ListN.{get_elem?}
use Rattle.atomic_table.specs.Table.{State}
use Rattle.serial_pass.specs.declared.plan.PlanEdge.{PlanEdge}
use Rattle.pass_core.specs.declared.published.Published.{Published}
use Rattle.serial_pass.specs.Results.{NodeResult}
use Rattle.ready_counters.specs.declared.view.View.{View}
use Rattle.ready_counters.specs.Edges.{left_from, left_of, edge_target, edge_source}
use Rattle.ready_counters.specs.Meaning.{claimed_word, HasWord, IsBoard}
use Rattle.ready_counters.specs.Sums.{total_of, claims, opens, fills, subtractions, fetches, draws}
use Rattle.ready_counters.specs.Views.{whole, nothing, times, tickets_for}
use Rattle.ready_counters.proofs.Sums.{sum_at, total_sole, total_at_most, total_add}
use Rattle.ready_counters.proofs.Left.{left_none, left_at_most, left_same}

pub times_grow : (x y : ℕ) (xs : List ℕ) → times x xs ≤ times x (y ∷ xs)
times_grow x y xs = omega arith

-- a word that isn't taken is what is left, and a taken one stands for a claimed node
pub not_taken : (c w l : ℕ) → HasWord c w l → (w ≡ claimed_word → ⊥) → (c ≡ 0) × (w ≡ l)
not_taken zero w l h ne = (refl, h)
not_taken (suc c) w l h ne = absurd (ne h.0)

pub is_taken : (c w l : ℕ) → HasWord c w l → l < 4294967296 → w ≡ claimed_word → (1 ≤ c) × (l ≡ 0)
is_taken zero w l h few is = absurd (omega arith)
is_taken (suc c) w l h few is = (omega arith, h.1)

-- of a claimed node nothing is left
pub none_left : (c w l : ℕ) → HasWord c w l → 1 ≤ c → l ≡ 0
none_left zero w l h le = absurd (omega arith)
none_left (suc c) w l h le = h.1

-- while something is left the node isn't claimed
pub still_free : (c w l : ℕ) → HasWord c w l → 1 ≤ l → (c ≡ 0) × (w ≡ l)
still_free zero w l h le = (refl, h)
still_free (suc k) w l h le = absurd (omega arith)

pub word_taken : (c w l : ℕ) → 1 ≤ c → w ≡ claimed_word → l ≡ 0 → HasWord c w l
word_taken zero w l c w_is l_is = absurd (omega arith)
word_taken (suc k) w l c w_is l_is = (w_is, l_is)

pub word_free : (c w l : ℕ) → c ≡ 0 → w ≡ l → HasWord c w l
word_free zero w l c h = h
word_free (suc k) w l c h = absurd (omega arith)

module _ {O A : Type 0} (count : ℕ) (edges : List PlanEdge) (result : ℕ → NodeResult O)
    (s : State (Option (Arc (Published O) A)) View) (holds : IsBoard count edges result s) where
  -- within each view, and so in all of them together
  module _ (e : ℕ) (inside : e < length edges) where
    pub subtracted_claimed : (id : ℕ) (v : View) → get_elem? s.views id ≡ some v
        → times e v.subtracted ≤ times (edge_source edges e) v.claimed
    subtracted_claimed id v at =
        let h = holds.seats id v at in let a = h.subtracted e in let b = h.sourced e inside in
        let c = h.drawn (edge_source edges e) in omega arith

    pub filled_drawn : opens s.views e + fills s.views e ≤ draws s.views (edge_source edges e)
    filled_drawn =
        let t = total_at_most (λ (v : View). times e v.opened + times e v.filled)
        (λ (v : View). tickets_for (edge_source edges e) v.tickets) s.views
        (λ j v at. (holds.seats j v at).sourced e inside) in
        let a = total_add (λ (v : View). times e v.opened) (λ (v : View). times e v.filled) s.views in omega arith

    pub drawn_fetched : draws s.views (edge_target edges e) ≤ fetches s.views e
    drawn_fetched = total_at_most (λ (v : View). tickets_for (edge_target edges e) v.tickets)
        (λ (v : View). times e v.fetched) s.views (λ j v at. (holds.seats j v at).gathered e inside)

  pub drawn_claimed : (n : ℕ) → draws s.views n ≤ claims s.views n
  drawn_claimed n = total_at_most (λ (v : View). tickets_for n v.tickets) (λ (v : View). times n v.claimed) s.views
      (λ j v at. (holds.seats j v at).drawn n)

  pub subtracted_filled : (e : ℕ) → subtractions s.views e ≤ fills s.views e
  subtracted_filled e = total_at_most (λ (v : View). times e v.subtracted) (λ (v : View). times e v.filled) s.views
      (λ j v at. (holds.seats j v at).subtracted e)

  -- all in-edges of a claimed node are subtracted
  pub claimed_subtracted : (n : ℕ) → n < count → 1 ≤ claims s.views n → (e : ℕ) → e < length edges
      → edge_target edges e ≡ n
      → 1 ≤ subtractions s.views e
  claimed_subtracted n node le e inside to =
      subst (λ k. 1 ≤ subtractions s.views k) (zero-add e)
      (left_none (subtractions s.views) 0 e edges n inside to
      (none_left (claims s.views n) (slice_index s.words n) (left_from (subtractions s.views) 0 edges n)
      (holds.counters.words n node) le))

  module _ (id : ℕ) (v : View) (here : get_elem? s.views id ≡ some v) where
    pub claim_mine : (n : ℕ) → 1 ≤ times n v.claimed → claims s.views n ≡ 1
    claim_mine n le = let a = sum_at (λ (u : View). times n u.claimed) s.views id v here in
        let b = holds.counters.once n in omega arith

    -- a seat that weighs all has all of what is counted
    pub sole : (f : View → ℕ) → f nothing ≡ 0 → v.weight ≡ whole → total_of f s.views ≡ f v
    sole f none heavy = total_sole f (λ (u : View). u.weight) s.views id v
        (λ j u at z. ap f ((holds.seats j u at).idle z) ∙ none) here (holds.weighed ∙ sym heavy)

    left_mine : (n : ℕ) → left_from (subtractions s.views) 0 edges n ≤ left_of edges v n
    left_mine n = left_at_most (subtractions s.views) (λ e. times e v.subtracted) 0 edges n
        (λ e. sum_at (λ (u : View). times e u.subtracted) s.views id v here)

    -- all left is what the view says
    pub left_within : (n : ℕ) → left_from (subtractions s.views) 0 edges n ≤ left_of edges v n
    left_within n = left_mine n

    pub left_sole : v.weight ≡ whole → (n : ℕ) → left_from (subtractions s.views) 0 edges n ≡ left_of edges v n
    left_sole heavy n = left_same (λ e. times e v.subtracted) (subtractions s.views) edges n
        (λ e. sole (λ (u : View). times e u.subtracted) refl heavy)
