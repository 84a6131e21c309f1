use Rattle.std.proofs.Common.{List, subst}
use Rattle.bp_faults.proofs.Refusals.{tells}
use Rattle.pass_ways.specs.declared.way.OrderLine.{OrderLine}
use Rattle.bp_pipeline.specs.declared.replayed.Replayed.{Replayed}
use Rattle.bp_pipeline.specs.Replays.{OrderMeans, ReplayMeans}
use Rattle.bp_pipeline.proofs.replayed.replay_with_rest.Goals as goal

pub returns : goal.returns
returns g c =
    let mods = c.args.mods.now in
    let config = c.args.c.now in
    tells {T = Replayed} (λ replayed. replayed.ninja) (ReplayMeans mods config c.as_slice.result.now c.args.file)
    (OrderMeans mods config c.args.order.now c.args.file)
    (λ outcome means. (
      c.in_ok-lines.lines.items,
      c.in_ok-lines.ensures.lines,
      subst (λ (l : List OrderLine). ReplayMeans mods config l c.args.file outcome) c.as_slice.ensures.value means,
    ))
    c.replay_lines_with_rest.result c.replay_lines_with_rest.ensures
