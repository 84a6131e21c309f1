use Rattle.fault_view.proofs.Prefixes.{stripped_is}
use Rattle.fault_view.proofs.unknown.behind.Goals as goal

pub returns : goal.returns
returns c = stripped_is c.args.first.now c.args.text.now c.strip_prefix.result c.strip_prefix.ensures.cases
