use Rattle.std.proofs.Common.{rules, ◌≡◌, Some, cond, ap, ◌∙◌}
use Rattle.std.specs.Prelude.{string_bytes}
use Rattle.std.specs.Str.{bytes_eq}
use Rattle.std.proofs.lemmas.Map.Text.{btree_map_updates_text}
use Rattle.bp_values.specs.IndexTable.{found_index}
use Rattle.bp_values.proofs.index_table.IndexTable.put.Goals as goal

pub returns : goal.returns
returns c q =
    let key : string_bytes c.in_ok-key.key ≡ c.args.name.now = search rules in
    btree_map_updates_text (string_bytes c.in_ok-key.key) c.args.self.now.indices c.insert.new.self _
    c.in_ok-insert.ensures.updates q
    ∙ ap (λ n. cond (bytes_eq n q) (Some c.args.index) (found_index c.args.self.now q)) key
