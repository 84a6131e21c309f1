-- How the edges that lead to each node are laid into one list. No public contract speaks of it.
use Rattle.std.specs.Prelude.{◌≡◌, ◌<◌, ◌≤◌, ◌+◌, ◌-◌, ◌^◌, ℕ, List, length, map}
use Rattle.std.specs.Prelude.{slice_index, slice_index_or, slice_range}
use Rattle.std.specs.List.{range_with_len}
use Rattle.graph_nodes.specs.declared.graph.Node.{Node}
use Rattle.mutator_rules.specs.Arrivals.{arrivals}

-- The lists into which indices cut some items: each begins at an index and ends at the next.
abbrev pub pieces : {A : Type 0} → List ℕ → List A → List (List A)
pieces starts items =
    map (λ n. slice_range items (slice_index starts n) (slice_index starts (n + 1)))
    (range_with_len 0 (length starts - 1))

-- Each index is no further than the next, which is within so many items.
pub record AreCuts (starts : List ℕ) (count : ℕ) : Type 0 where
  pub rise : (n : ℕ) → n + 1 < length starts → slice_index starts n ≤ slice_index starts (n + 1)
  pub within : (n : ℕ) → n + 1 < length starts → slice_index starts (n + 1) ≤ count

-- The lists of the numbers below a count stand among some items, each from its own index on.
abbrev pub StandFrom : {A : Type 0} → ℕ → (ℕ → ℕ) → (ℕ → List A) → List A → Type 0
StandFrom {A} count begins lists items =
    (t j : ℕ) (d : A) → t < count → j < length (lists t)
    → slice_index_or items (begins t + j) d ≡ slice_index_or (lists t) j d

-- From its own start on, each node has room for the edges that lead to it, before the start of any later node and
-- within so many items.
pub record HaveRoom {P : Type 0} (begins : ℕ → ℕ) (nodes : List (Node P)) (count : ℕ) : Type 0 where
  pub apart : (t u : ℕ) → t < u → u < length nodes → begins t + length (arrivals nodes t) ≤ begins u
  pub within : (t : ℕ) → t < length nodes → begins t + length (arrivals nodes t) ≤ count
  pub few : count < 2 ^ 32
