use Rattle.std.proofs.Common.{◌≡◌, ◌<◌, ℕ, length}
use Rattle.std.specs.Prelude.{slice_index}
use Rattle.serial_pass.specs.InEdges.{edges_below}
use Rattle.serial_pass.proofs.in_edges.starts_of.Given as goal

abbrev pub invariant-loop-n : goal.invariant-loop-n
invariant-loop-n l =
    (length l.starts.items ≡ l.n) × (l.begin ≡ edges_below l.edges l.n)
    × ((n : ℕ) → n < l.n → slice_index l.starts.items n ≡ edges_below l.edges n)
