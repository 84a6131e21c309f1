use Rattle.std.proofs.Common.{◌-◌, arith, nat_eq}
use Rattle.serial_pass.specs.Orders.{numbers}
use Rattle.info_mutators.specs.Dependencies.{Dependency}
use Rattle.info_mutators.specs.Info.{line_part}
use Rattle.info_mutators.proofs.Noted.{end_noted}
use Rattle.info_mutators.proofs.nodes.note_line.Goals as goal

pub loop-index-preserved : goal.loop-index-preserved
loop-index-preserved c = record {
  within = omega (arith, c.loop-index.invariant.within, c.loop-index-test.true);
  end =
      end_noted nat_eq (λ (d : Dependency). numbers (line_part d.node d.props d.kind)) c.args.dependencies.now
      (c.loop-index.index - 1) c.index-dependencies-index.result
      (omega (arith, c.loop-index.invariant.within, c.loop-index-test.true)) c.index-dependencies-index.is
      c.loop-index.index (omega (arith, c.loop-index-test.true))
      c.args.notes.now c.loop-index.notes c.note_line_part.new.notes c.loop-index.invariant.end
      c.in_ok-note_line_part.ensures;
}
