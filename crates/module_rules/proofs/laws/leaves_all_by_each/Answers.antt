use Rattle.module_rules.proofs.Idle.{leaves_all}
use Rattle.module_rules.proofs.laws.leaves_all_by_each.Goals as goal

pub returns : goal.returns
returns c = λ rule mods nodes may each n ins x is. leaves_all rule mods nodes may each n ins x is
