-- What bodies use on the way to the serial order. No public contract speaks of it.
use Rattle.std.specs.Prelude.{ℕ}
use Rattle.bp_faults.specs.declared.ids.NodeId.{NodeId}
use Rattle.serial_pass.specs.declared.plan.Plan.{Plan}
use Rattle.serial_pass.specs.Heights.{height}

-- A node with its height.
abbrev pub ranked_node : Plan → ℕ → ℕ × NodeId
ranked_node plan n = (height plan n, record { 0 = n })
