use Rattle.std.proofs.Common.{arith, rules, sym, ap, length}
use Rattle.serial_pass.proofs.InEdgesPlaced.{below_le_length, below_none}
use Rattle.serial_pass.proofs.in_edges.starts_of.Goals as goal

pub loop-n-init : goal.loop-n-init
loop-n-init c =
    let none = below_none c.as_slice-edges.result.now in (search rules, sym none, λ n lt. absurd (omega arith))

pub overflow_cast-begin : goal.overflow_cast-begin
overflow_cast-begin c =
    let inside = below_le_length c.as_slice-edges.result.now c.loop-n.n in
    let few = c.requires.few in
    let same = ap length c.as_slice-edges.ensures in
    omega arith

pub overflow_cast-begin-2 : goal.overflow_cast-begin-2
overflow_cast-begin-2 c =
    let inside = below_le_length c.as_slice-edges.result.now c.loop-n.n in
    let few = c.requires.few in
    let same = ap length c.as_slice-edges.ensures in
    omega arith
