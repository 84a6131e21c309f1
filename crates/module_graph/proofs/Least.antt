-- The least number of the targets of edges, with one edge more.
use Rattle.std.proofs.Common.{◌≡◌, ◌<◌, ◌≤◌, ◌++◌, ◌+◌, ℕ, List, [], ◌∷◌, length, min, take, get_or, sym, subst, arith}
use Rattle.std.specs.Prelude.{slice_index}
use Rattle.std.specs.List.{AllByRecursion}
use Rattle.std.proofs.Math.Decide.{dec_lt}
use Rattle.std.proofs.lemmas.List.{take_more}
use Rattle.bp_faults.proofs.Lists.{all_map, all_pushed}
use Rattle.graph_nodes.specs.declared.graph.Edge.{Edge}

module _ (numbers : List ℕ) where
  abbrev AreAbove : List Edge → ℕ → Type 0
  AreAbove es least = AllByRecursion (λ (e : Edge). least ≤ slice_index numbers e.to.0) es

  by_order : (es : List Edge) (x : Edge) (least r : ℕ) → AreAbove es least → r ≡ min least (slice_index numbers x.to.0)
      → Dec (slice_index numbers x.to.0 < least) → AreAbove (es ++ x ∷ []) r
  by_order es x least r h is (yes lt) =
      all_pushed (λ (e : Edge). r ≤ slice_index numbers e.to.0) es x
      (all_map (λ (e : Edge). least ≤ slice_index numbers e.to.0) (λ (e : Edge). r ≤ slice_index numbers e.to.0)
      (λ e k. omega arith) es h) (omega arith)
  by_order es x least r h is (no ge) =
      let same : least ≡ r = omega arith in
      all_pushed (λ (e : Edge). r ≤ slice_index numbers e.to.0) es x
      (subst (λ k. AllByRecursion (λ (e : Edge). k ≤ slice_index numbers e.to.0) es) same h) (omega arith)

  -- one edge more
  pub least_step : (es : List Edge) (i : ℕ) (d : Edge) (least r : ℕ) → i < length es → AreAbove (take i es) least
      → r ≡ min least (slice_index numbers (get_or es i d).to.0) → AreAbove (take (i + 1) es) r
  least_step es i d least r lt h is =
      subst (λ (l : List Edge). AreAbove l r) (sym (take_more es i d lt))
      (by_order (take i es) (get_or es i d) least r h is (dec_lt (slice_index numbers (get_or es i d).to.0) least))
