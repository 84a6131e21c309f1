-- How far the heights of a plan are settled: what the search for them keeps. No public contract speaks of it.
use Rattle.std.specs.Prelude.{◌≡◌, ◌<◌, ◌+◌, ℕ, suc, List, [], ◌∷◌, map, length, take, drop, slice_get, Option, Some}
use Rattle.std.specs.Prelude.{None, IsSome, ⊤, ◌⊎◌}
use Rattle.std.specs.List.{AllByRecursion}
use Rattle.bp_faults.specs.declared.ids.NodeId.{NodeId}
use Rattle.serial_pass.specs.declared.plan.Plan.{Plan}
use Rattle.serial_pass.specs.declared.height.Climb.{Climb}
use Rattle.serial_pass.specs.Plans.{predecessors}
use Rattle.serial_pass.specs.Heights.{unroll, height}

-- What stands in a slot, where there is one and something stands there.
abbrev pub inner_option : Option (Option ℕ) → Option ℕ
inner_option None = None
inner_option (Some x) = x

-- The height that stands for a node so far.
abbrev pub settled_at : List (Option ℕ) → ℕ → Option ℕ
settled_at settled n = inner_option (slice_get settled n)

-- There is a slot for each node, and what stands there is the node's height.
pub record AreSettled (plan : Plan) (settled : List (Option ℕ)) : Type 0 where
  pub many : length settled ≡ plan.count
  pub right : (n h : ℕ) → settled_at settled n ≡ Some h → h ≡ height plan n

-- The height of each node is settled.
abbrev pub AreAllSettled : Plan → List (Option ℕ) → Type 0
AreAllSettled plan settled =
    AreSettled plan settled × ((n : ℕ) → n < plan.count → IsSome (settled_at settled n))

-- The climb from a node, of which no in-edge was looked at.
abbrev pub start_at : ℕ → Climb
start_at n = record { node = record { 0 = n }; next = 0 }

-- A node is on the path.
abbrev pub IsOn : List Climb → ℕ → Type 0
IsOn [] n = ⊥
IsOn (c ∷ cs) n = (c.node.0 ≡ n) ⊎ IsOn cs n

-- A node is settled, or will be, since it is on the path.
abbrev pub IsDue : List (Option ℕ) → List Climb → ℕ → Type 0
IsDue settled path n = IsSome (settled_at settled n) ⊎ IsOn path n

-- On a path each climb stands at a node, and the predecessors that it has looked at are settled or above it.
abbrev pub IsPath : Plan → List (Option ℕ) → List Climb → Type 0
IsPath plan settled [] = ⊤
IsPath plan settled (c ∷ cs) =
    (c.node.0 < plan.count) × AllByRecursion (IsDue settled cs) (take c.next (predecessors plan.edges c.node.0))
    × IsPath plan settled cs

-- A node is sought above a climb unless its height is there.
abbrev pub sought_climbs : NodeId → Option ℕ → List Climb
sought_climbs source None = (record { node = source; next = 0 }) ∷ []
sought_climbs source (Some h) = []

-- Where a climb goes along an edge: it has looked at one edge more, and the source is sought above it.
abbrev pub gone_up : List (Option ℕ) → Climb → NodeId → List Climb
gone_up settled c source =
    (record { node = c.node; next = c.next + 1 }) ∷ (sought_climbs source (settled_at settled source.0))

-- The sum of some numbers, each counted with one more.
abbrev pub total : List ℕ → ℕ
total [] = 0
total (c ∷ cs) = suc c + total cs

-- The most steps that a climb from a node takes: one more than the steps along each in-edge.
unfoldable pub cost : Plan → ℕ → ℕ
cost plan = unroll (predecessors plan.edges) (λ n cs. suc (total cs)) 0 plan.count

-- The most steps that are left of a path.
abbrev pub path_cost : Plan → List Climb → ℕ
path_cost plan [] = 0
path_cost plan (c ∷ cs) =
    suc (total (map (cost plan) (drop c.next (predecessors plan.edges c.node.0)))) + path_cost plan cs

-- Going on along a path keeps what it is for, and leaves fewer steps.
pub record IsAdvanced (plan : Plan) (settled : List (Option ℕ)) (path : List Climb)
    (after : List (Option ℕ)) (rest : List Climb) : Type 0 where
  pub right : AreSettled plan after
  pub on_path : IsPath plan after rest
  pub due : (n : ℕ) → IsDue settled path n → IsDue after rest n
  pub less : path_cost plan rest < path_cost plan path

-- What is settled is right, and each node is settled or will be.
pub record IsOnWay (plan : Plan) (settled : List (Option ℕ)) (path : List Climb) : Type 0 where
  pub right : AreSettled plan settled
  pub on_path : IsPath plan settled path
  pub due : (n : ℕ) → n < plan.count → IsDue settled path n
