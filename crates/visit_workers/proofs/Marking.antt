-- Marks of the nodes that were made.
use Rattle.std.proofs.Common.{◌≡◌, ◌+◌, ◌<◌, ◌≤◌, ◌++◌, ◌∙◌, ℕ, zero, suc, Bool, true, List, [], ◌∷◌, length}
use Rattle.std.proofs.Common.{set, refl, ap, arith, sym, subst, Some}
use Rattle.std.specs.Prelude.{slice_get}
use Rattle.std.specs.List.{AllByRecursion}
use mathlib.Core.Logic.{dite}
use native.Mathlib.Decide.{ℕ_discrete}
use Rattle.bp_faults.proofs.Lists.{get_else}
use Rattle.ready_counters.specs.Views.{tickets_for}
use Rattle.visit_workers.proofs.Counting.{tickets_append, ticket_here}
use Rattle.visit_workers.specs.declared.made.Made.{Made}
use Rattle.visit_workers.specs.Making.{pairs}

-- a mark among those that are all set
set_at : (marks : List Bool) (n : ℕ) → AllByRecursion (λ mark. mark ≡ true) marks → n < length marks
    → slice_get marks n ≡ Some true
set_at [] n all l = absurd (omega arith)
set_at (mark ∷ marks) zero all l = ap Some all.0
set_at (mark ∷ marks) (suc n) all l = set_at marks n all.1 (omega arith)

module _ {O : Type 0} where
  -- a node whose mark is set has a ticket
  abbrev pub AreMarks : List Bool → List (Made O) → Type 0
  AreMarks marks made = (n : ℕ) → slice_get marks n ≡ Some true → 1 ≤ tickets_for n (pairs made)

  pairs_append : (xs : List (Made O)) (m : Made O) → pairs (xs ++ m ∷ []) ≡ pairs xs ++ (m.node.0, m.ticket) ∷ []
  pairs_append [] m = refl
  pairs_append (x ∷ xs) m = ap (λ l. (x.node.0, x.ticket) ∷ l) (pairs_append xs m)

  -- one more node is marked
  pub one_marked : (made : List (Made O)) (m : Made O) (marks : List Bool) → AreMarks marks made
      → AreMarks (set marks m.node.0 true) (made ++ m ∷ [])
  one_marked made m marks h n is =
      let a : tickets_for n (pairs (made ++ m ∷ []))
      ≡ tickets_for n (pairs made) + tickets_for n ((m.node.0, m.ticket) ∷ [])
      = ap (tickets_for n) (pairs_append made m) ∙ tickets_append n (pairs made) ((m.node.0, m.ticket) ∷ []) in
      dite (ℕ_discrete n m.node.0)
      (λ same. let b : tickets_for n ((m.node.0, m.ticket) ∷ []) ≡ 1 + 0 =
      subst (λ x. tickets_for x ((m.node.0, m.ticket) ∷ []) ≡ 1 + 0) (sym same) (ticket_here m.ticket [] m.node.0) in
      omega arith)
      (λ ne. let b = h n (sym (get_else marks m.node.0 n true ne) ∙ is) in omega arith)

  -- each node has a ticket where all marks are set
  pub all_marked : (made : List (Made O)) (marks : List Bool) (count : ℕ) → length marks ≡ count → AreMarks marks made
      → AllByRecursion (λ mark. mark ≡ true) marks → (n : ℕ) → n < count → 1 ≤ tickets_for n (pairs made)
  all_marked made marks count many h all n l = h n (set_at marks n all (omega arith))
