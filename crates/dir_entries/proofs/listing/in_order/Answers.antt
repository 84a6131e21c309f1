use Rattle.dir_entries.proofs.Sorts.{sorted_entries}
use Rattle.dir_entries.proofs.listing.in_order.Goals as goal

pub returns : goal.returns
returns c =
    sorted_entries c.args.entries.items c.sort.new.self.items c.dedup.new.self.items c.dedup.ensures.filtered
    c.in_ok-sort.ensures.sorted c.in_ok-sort.ensures.permutation
