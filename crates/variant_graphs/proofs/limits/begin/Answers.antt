use Rattle.std.proofs.Common.{◌≡◌, ◌∙◌, ap, get_or, ◌<◌, ◌+◌, length, arith, sym, Some}
use Rattle.std.proofs.lemmas.Grind.{common_steps}
use Rattle.std.proofs.lemmas.Option.{slice_get-get_or}
use Rattle.std.specs.Option.{option_map}
use Rattle.std.proofs.lemmas.List.FromFn.{map-range_with_len_more}
use Rattle.graph_nodes.specs.declared.graph.Node.{Node}
use Rattle.variant_graphs.specs.Inside.{before}
use Rattle.variant_graphs.proofs.Pieces.{before_more}
use Rattle.variant_graphs.proofs.limits.begin.Goals as goal

pub returns-then-count-total : goal.returns-then-count-total
returns-then-count-total g c =
    let n = c.loop-n.n in
    let lt : n < length c.args.counts.now = omega arith in
    let lt2 : n < length c.args.g.now.nodes = omega arith in
    let more = before_more c.args.counts.now n lt in
    let total = c.loop-n.invariant.total in
    let e : length c.as_slice.result.now ≡ length c.args.g.now.nodes = ap length c.as_slice.ensures in (
      n,
      lt2,
      omega arith,
      omega arith,
      ap (option_map (λ (x : Node _). x.«module»)) (slice_get-get_or c.args.g.now.nodes n c.index-as_slice-n.result lt2
          ∙ ap (λ nodes. Some (get_or nodes n c.index-as_slice-n.result)) (sym c.as_slice.ensures)),
    )

pub loop-n-preserved : goal.loop-n-preserved
loop-n-preserved g c =
    let n = c.loop-n.n in
    let lt : n < length c.args.counts.now = omega arith in
    let more = before_more c.args.counts.now n lt in
    let total = c.loop-n.invariant.total in
    let begins = map-range_with_len_more (before c.args.counts.now) 0 (n + 1) (n + 1) (omega arith) in
    record {
      total = omega arith;
      few = omega arith;
      begins = grind (arith, common_steps);
    }
