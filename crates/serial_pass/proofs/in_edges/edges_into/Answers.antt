use Rattle.std.proofs.Common.{rules, ◌+◌, arith}
use Rattle.serial_pass.proofs.InEdgesPlaced.{below_rises, below_le_length, placed}
use Rattle.serial_pass.proofs.in_edges.edges_into.Goals as goal

pub slice_bounds-result-count : goal.slice_bounds-result-count
slice_bounds-result-count c =
    let begin = c.requires.starts.begins c.args.n.0 (omega arith) in
    let end = c.requires.starts.begins (c.args.n.0 + 1) (omega arith) in
    let rises = below_rises c.args.plan.now.edges c.args.n.0 in
    omega arith

pub returns : goal.returns
returns c =
    let begin = c.requires.starts.begins c.args.n.0 (omega arith) in
    let end = c.requires.starts.begins (c.args.n.0 + 1) (omega arith) in
    rw (begin, end, c.as_slice.ensures) (placed c.args.plan.now.edges c.args.n.0 c.requires.plan.by_target)

pub slice_bounds-result-start : goal.slice_bounds-result-start
slice_bounds-result-start c =
    let begin = c.requires.starts.begins c.args.n.0 (omega arith) in
    let end = c.requires.starts.begins (c.args.n.0 + 1) (omega arith) in
    let rises = below_rises c.args.plan.now.edges c.args.n.0 in
    let inside = below_le_length c.args.plan.now.edges (c.args.n.0 + 1) in
    search rules

pub slice_bounds-result-end : goal.slice_bounds-result-end
slice_bounds-result-end c =
    let begin = c.requires.starts.begins c.args.n.0 (omega arith) in
    let end = c.requires.starts.begins (c.args.n.0 + 1) (omega arith) in
    let rises = below_rises c.args.plan.now.edges c.args.n.0 in
    let inside = below_le_length c.args.plan.now.edges (c.args.n.0 + 1) in
    search rules
