use Rattle.dir_entries.proofs.First.{behind_found}
use Rattle.dir_entries.proofs.listing.behind_slash.Goals as goal

pub returns : goal.returns
returns c = behind_found c.args.dir.now c.args.path.now c.in_ok-behind.field-0.now c.behind-2.result
    c.in_ok-behind.ensures c.behind-2.ensures
