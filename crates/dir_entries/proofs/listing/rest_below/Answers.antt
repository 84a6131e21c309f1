use Rattle.dir_entries.proofs.First.{below_found, filled}
use Rattle.dir_entries.proofs.listing.rest_below.Goals as goal

pub returns : goal.returns
returns c =
    below_found c.args.dir.now c.args.path.now c.behind_slash.result
    (filled c.args.dir.now c.if-is_empty.ensures) c.behind_slash.ensures
