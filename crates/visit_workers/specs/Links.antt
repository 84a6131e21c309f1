-- The edges out of each node, by their numbers. No public contract speaks of it.
use Rattle.std.specs.Prelude.{◌≡◌, ◌<◌, ◌==◌, ℕ, suc, List, [], ◌∷◌, length, slice_index, if◌then◌else◌}
use Rattle.serial_pass.specs.declared.plan.PlanEdge.{PlanEdge}
use Rattle.visit_workers.specs.declared.links.Outs.{Outs}

-- The numbers of the edges out of a node, where the first edge has the number k.
abbrev pub numbers_from : ℕ → List PlanEdge → ℕ → List ℕ
numbers_from k [] n = []
numbers_from k (d ∷ ds) n = if d.from.0 == n then k ∷ numbers_from (suc k) ds n else numbers_from (suc k) ds n

-- The end of a chain.
abbrev pub chain_end : ℕ
chain_end = 4294967295

-- From a number on, along a table of what is next, stand these numbers and no more. Each is below the one that is next.
abbrev pub IsChain : List ℕ → ℕ → List ℕ → Type 0
IsChain next at [] = at ≡ chain_end
IsChain next at (e ∷ es) = (at ≡ e) × (e < length next) × (e < slice_index next e)
    × IsChain next (slice_index next e) es

-- There is a chain for each node, of the numbers of the edges out of it.
pub record AreOuts (count : ℕ) (edges : List PlanEdge) (outs : Outs) : Type 0 where
  pub many : length outs.first.items ≡ count
  pub all : length outs.next.items ≡ length edges
  pub each : (n : ℕ) → n < count → IsChain outs.next.items (slice_index outs.first.items n) (numbers_from 0 edges n)
