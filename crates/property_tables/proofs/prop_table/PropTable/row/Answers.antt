use Rattle.std.proofs.Common.{rules, ltb, ◌∙◌, ◌&&◌}
use Rattle.std.specs.Str.{bytes_eq}
use Rattle.std.proofs.lemmas.List.{take_rest}
use Rattle.std.proofs.lemmas.Iterator.{YieldsList-from_slice}
use Rattle.std.proofs.lemmas.Iterator.Search.{find_from_yields_List}
use Rattle.std.proofs.lemmas.List.Sorted.{IsPartitionPoint-from_clause}
use Rattle.property_tables.specs.Inside.{first_rank, is_wanted, offered_of}
use Rattle.property_tables.proofs.Search.{first_row, rows_parted}
use Rattle.property_tables.proofs.prop_table.PropTable.row.Goals as goal

-- no row in front of the start has the name, and each row's name behind it is compared with the one that is wanted
pub returns : goal.returns
returns c =
    let rows = c.self.inside.rows.now in
    let wanted = c.self.inside.wanted in
    let name = c.args.name.now in
    let parted = IsPartitionPoint-from_clause (λ o. ltb (first_rank o.row.name.now) (first_rank name)) rows _
    c.partition_point-start.ensures.partitioned (rows_parted rows (first_rank name) c.self.invariant)
    (λ a r q k. search rules) in
    rw (← c.self.view_is, c.row_of.ensures)
    (first_row wanted rows name _ c.find.result c.partition_point-start.ensures.bound parted
    (find_from_yields_List (λ o. bytes_eq o.row.name.now name && is_wanted wanted (offered_of o)) _ _ c.find.result
    c.find.ensures.ran (YieldsList-from_slice _ (c.iter.ensures.rest ∙ take_rest rows _))
    (λ x b q k. search rules)))
