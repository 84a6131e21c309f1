-- Heights of nodes, and the serial order by height and number.
use Rattle.std.specs.Prelude.{ℕ, zero, suc, List, map}
pub use Rattle.bp_faults.specs.Order.{above_all, Precedes}
use Rattle.serial_pass.specs.declared.plan.Plan.{Plan}
use Rattle.serial_pass.specs.Plans.{predecessors}

-- A value for each node by recursion over its predecessors. Below a depth every node has the base value: without a
-- cycle no walk is as long as a plan has nodes, so at that depth the recursion never comes to the base.
abbrev pub unroll : {X : Type 0} → (ℕ → List ℕ) → (ℕ → List X → X) → X → ℕ → ℕ → X
unroll before step base zero n = base
unroll before step base (suc depth) n = step n (map (unroll before step base depth) (before n))

-- The height of a node: 0 without predecessors, else one more than its greatest predecessor's.
unfoldable pub height : Plan → ℕ → ℕ
height plan = unroll (predecessors plan.edges) (λ n hs. above_all hs) 0 plan.count

-- Serial order: by height, then by number.
abbrev pub IsBefore : Plan → ℕ → ℕ → Type 0
IsBefore plan = Precedes (height plan)
