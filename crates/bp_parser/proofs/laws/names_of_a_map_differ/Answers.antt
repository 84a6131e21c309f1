use Rattle.bp_parser.proofs.Distinct.{distinct_names}
use Rattle.bp_parser.proofs.laws.names_of_a_map_differ.Goals as goal

pub returns : goal.returns
returns c = distinct_names
