use Rattle.std.proofs.Common.{rules, arith, ◌≡◌, false, is_some, Some, cond, ap, sym, ◌∙◌}
use Rattle.std.specs.Str.{bytes_eq}
use Rattle.bp_values.specs.declared.value.Entry.{out-Entry}
use Rattle.bp_values.specs.IndexTable.{found_index}
use Rattle.bp_values.proofs.Views.{name_out}
use Rattle.bp_values.proofs.Indices.{indexed_entry, indexed_all}
use Rattle.bp_values.proofs.map_sum.with_names.Goals as goal

pub loop-index-preserved : goal.loop-index-preserved
loop-index-preserved c =
    let entries = c.args.entries.now in
    let item = c.index-entries-index.result in
    let missed : is_some (found_index c.loop-index.all (out-Entry item).name) ≡ false = search rules in
    indexed_entry (found_index c.loop-index.all) (found_index c.put.new.self) entries c.loop-index.index item
    c.loop-index-test.true c.index-entries-index.is c.loop-index.invariant
    (ap (λ n. is_some (found_index c.loop-index.all n)) (name_out item) ∙ missed)
    (λ q. c.in_ok-put.ensures q
    ∙ ap (λ n. cond (bytes_eq n q) (Some c.loop-index.index) (found_index c.loop-index.all q)) (sym (name_out item)))

pub returns : goal.returns
returns c =
    indexed_all (found_index c.loop-index.all) c.args.entries.now c.loop-index.index
    (omega arith) c.loop-index.invariant
