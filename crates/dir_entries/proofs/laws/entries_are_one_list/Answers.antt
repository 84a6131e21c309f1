use Rattle.dir_entries.proofs.Once.{entries_once}
use Rattle.dir_entries.proofs.laws.entries_are_one_list.Goals as goal

pub returns : goal.returns
returns c = λ held dir one other a b. entries_once held dir one other a b
