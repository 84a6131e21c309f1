use Rattle.std.proofs.Common.{subst, ap, ◌∙◌, map}
use Rattle.std.specs.Ordering.{nat_cmp}
use Rattle.std.specs.Cmp.Lexicographic.{slice_cmp}
use Rattle.std.specs.List.Sorted.{IsStrictlySortedBy}
use Rattle.std.specs.Map.{keys_of}
use Rattle.bp_names.proofs.Keys.{names_ascend, names_of_pairs}
use Rattle.bp_names.proofs.table.NameTable.len.Goals as goal

pub returns-clause-ascend : goal.returns-clause-ascend
returns-clause-ascend c =
    subst (IsStrictlySortedBy (slice_cmp nat_cmp))
    (names_of_pairs c.self.inside.numbers.entries ∙ ap (map (λ pair. pair.0)) c.self.view_is)
    (names_ascend (keys_of c.self.inside.numbers.entries) c.len.ensures.ordered)
