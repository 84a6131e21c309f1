use Rattle.std.proofs.Common.{subst}
use Rattle.std.specs.Ordering.{nat_cmp}
use Rattle.std.specs.Cmp.Lexicographic.{slice_cmp}
use Rattle.std.specs.List.Sorted.{IsStrictlySortedBy}
use Rattle.bp_names.proofs.Keys.{names_ascend}
use Rattle.bp_names.proofs.set.NameSet.len.Goals as goal

pub returns-clause-ascend : goal.returns-clause-ascend
returns-clause-ascend c =
    subst (IsStrictlySortedBy (slice_cmp nat_cmp)) c.self.view_is
    (names_ascend c.self.inside.names.keys c.len.ensures.ordered)
