-- Orders of the nodes of a plan.
use Rattle.std.specs.Prelude.{◌≢◌, ◌<◌, ℕ, List, map, length, take, slice_index}
use Rattle.std.specs.List.{AllByRecursion, AllPairs, Contains}
use Rattle.bp_faults.specs.declared.ids.NodeId.{NodeId}
use Rattle.serial_pass.specs.declared.plan.Plan.{Plan}
use Rattle.serial_pass.specs.Plans.{predecessors}
use Rattle.serial_pass.specs.Heights.{IsBefore}

-- The numbers of some nodes.
abbrev pub numbers : List NodeId → List ℕ
numbers nodes = map (λ (n : NodeId). n.0) nodes

-- A list has each node of the plan once, and nothing else.
pub record HasEachOnce (plan : Plan) (order : List ℕ) : Type 0 where
  pub nodes : AllByRecursion (λ n. n < plan.count) order
  pub each : (n : ℕ) → n < plan.count → Contains order n
  pub once : AllPairs (λ m n. m ≢ n) order

-- A legal order has each node once, each after all its predecessors.
pub record IsLegal (plan : Plan) (order : List ℕ) : Type 0 where
  pub each_once : HasEachOnce plan order
  pub after : (index : ℕ) → index < length order
      → AllByRecursion (Contains (take index order)) (predecessors plan.edges (slice_index order index))

-- The serial order has each node once, by height and then by number.
pub record IsSerial (plan : Plan) (order : List ℕ) : Type 0 where
  pub each_once : HasEachOnce plan order
  pub sorted : AllPairs (IsBefore plan) order
