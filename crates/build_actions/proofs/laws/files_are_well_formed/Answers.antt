use Rattle.build_actions.proofs.Written.{all_good}
use Rattle.build_actions.proofs.Formed.{well_formed}
use Rattle.build_actions.proofs.laws.files_are_well_formed.Goals as goal

pub returns : goal.returns
returns c = λ ms nodes made plan free told write are.
    well_formed made
    (all_good c.variant_names_are_plain.ensures ms nodes write c.predecessors_are_nodes.ensures
    c.predecessors_are_less.ensures c.predecessors_are_targets.ensures plan free made are)
    (c.no_output_twice.ensures ms nodes made told are)
