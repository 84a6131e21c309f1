use Rattle.std.proofs.Common.{map, subst, Option}
use Rattle.bp_values.specs.Values.{map_entry_of}
use Rattle.bp_values.specs.Indices.{Indices, names_in}
use Rattle.bp_values.specs.declared.index_table.IndexTable.{IndexTable}
use Rattle.bp_values.proofs.MapIndices.{made_known, nothing_known}
use Rattle.bp_values.proofs.map_sum.known.Goals as goal

pub returns-in-Some-2 : goal.returns-in-Some-2
returns-in-Some-2 c =
    let fields = map map_entry_of c.args.entries.now in
    let indexed = subst (λ (o : Option IndexTable). Indices o (names_in fields)) c.in-Some-2.is c.in_ok-names.ensures in
    made_known c.in-Some-2.names c.new-in-Some-2.result fields indexed
    (nothing_known c.new-in-Some-2.result fields c.new-in-Some-2.ensures.empty)
