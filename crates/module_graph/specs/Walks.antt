-- Walks along edges.
use Rattle.std.specs.Prelude.{◌≡◌, ℕ, zero, suc, List, Contains}
use Rattle.serial_pass.specs.declared.plan.PlanEdge.{PlanEdge}

-- Some edge leads from n to m.
abbrev pub Leads : List PlanEdge → ℕ → ℕ → Type 0
Leads edges n m = (e : PlanEdge) × Contains edges e × (e.from.0 ≡ n) × (e.to.0 ≡ m)

-- A walk of k edges leads from n to m.
abbrev pub Walk : List PlanEdge → ℕ → ℕ → ℕ → Type 0
Walk edges zero n m = n ≡ m
Walk edges (suc k) n m = (t : ℕ) × Leads edges n t × Walk edges k t m

-- A walk of one or more edges leads from n back to it.
abbrev pub Returns : List PlanEdge → ℕ → Type 0
Returns edges n = (k : ℕ) × Walk edges (suc k) n n

-- No walk returns to its start.
abbrev pub NoneReturns : List PlanEdge → Type 0
NoneReturns edges = (n : ℕ) → Returns edges n → ⊥
