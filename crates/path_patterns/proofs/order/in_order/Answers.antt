use Rattle.path_patterns.proofs.Sorts.{ascends, same_texts}
use Rattle.path_patterns.proofs.order.in_order.Goals as goal

pub returns-clause-order : goal.returns-clause-order
returns-clause-order c =
    ascends c.args.texts.items c.sort.new.self.items c.dedup.new.self.items c.dedup.ensures.filtered
    c.in_ok-sort.ensures.sorted

pub returns-clause-same : goal.returns-clause-same
returns-clause-same c =
    same_texts c.args.texts.items c.sort.new.self.items c.dedup.new.self.items c.dedup.ensures.filtered
    c.in_ok-sort.ensures.permutation
