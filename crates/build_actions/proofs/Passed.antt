-- What a pass over a graph makes.
use Rattle.std.proofs.Common.{map, sym, ap, ◌∙◌, arith}
use Rattle.std.specs.Prelude.{slice_index_or}
use Rattle.serial_pass.specs.Laws.{OutsAreMany, OutsMeetTheirEquation}
use Rattle.module_graph.specs.declared.direction.Direction.TheVariants.{BottomUp}
use Rattle.module_graph.specs.Laws.{PredecessorsAreTargets}
use Rattle.module_graph.specs.Planned.{plan_of}
use Rattle.bp_props.specs.declared.props.Props.{Props}
use Rattle.build_actions.specs.declared.actions.Actions.{Actions}
use Rattle.build_actions.specs.Acts.{acts_at}
use Rattle.build_actions.specs.Laws.{PassesMake}

pub passes_make : OutsAreMany Actions → OutsMeetTheirEquation Actions → PredecessorsAreTargets Props → PassesMake
passes_make many equation targeted ms nodes outs plan free outcome = record {
  many = many (acts_at ms nodes) (plan_of BottomUp nodes) outs outcome;
  each = λ n d lt.
      ap (λ ns. acts_at ms nodes n (map (λ m. slice_index_or outs m d) ns)) (sym (targeted nodes n))
      ∙ equation (acts_at ms nodes) (plan_of BottomUp nodes) outs n d plan free outcome
      (let e = many (acts_at ms nodes) (plan_of BottomUp nodes) outs outcome in omega arith);
}
