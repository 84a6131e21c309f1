-- What a table of indices finds. No public contract speaks of it.
use Rattle.std.specs.Prelude.{ℕ, List, Option}
use Rattle.std.specs.BTreeMap.{get_by_text}
use Rattle.bp_values.specs.declared.index_table.IndexTable.{IndexTable}

-- The index that a table finds for a name.
abbrev pub found_index : IndexTable → List ℕ → Option ℕ
found_index table name = get_by_text table.indices name
