use Rattle.std.proofs.Common.{rules, ◌≡◌, ◌++◌, ◌∷◌, [], map, sym, ap, ◌∙◌, Ok, Err}
use Rattle.std.proofs.lemmas.List.{map-append}
use Rattle.bp_values.specs.Values.{map_entry_of, body, map_entries_then, no_map_entry, meaning}
use Rattle.bp_values.specs.declared.value.Entry.{out-Entry}
use Rattle.bp_values.specs.Sums.{sum, sum_entries, combined_value, others}
use Rattle.bp_values.specs.Inside.{IsIndex, HasMet}
use Rattle.bp_values.proofs.Unite.{sum_bodies, passes, each_step, summed_names}
use Rattle.bp_values.proofs.Shared.{others_of, met_alike}
use Rattle.bp_values.proofs.sums.+sums.Goals as goal

pub sum_each-loop-entry-preserved : goal.sum_each-loop-entry-preserved
sum_each-loop-entry-preserved t c =
    let e = c.in-Some.entry in
    let left = c.loop-entry.entry-iterator.rest.items in
    let rest = c.next.new.self.rest.items in
    let is : left ≡ e ∷ rest = search rules in
    let value = meaning (out-Entry e).value in (
      tt,
      tt,
      each_step left rest e c.args.at (map map_entry_of c.args.second.now) (map map_entry_of c.loop-entry.entries.items)
          (map map_entry_of c.push.new.self.items)
          (sum_entries c.args.at (map_entries_then (map map_entry_of c.args.first.items) no_map_entry)
          (map map_entry_of c.args.second.now)) (meaning c.in_ok-value.value) is c.loop-entry.invariant.2
          (ap (λ o. combined_value value (sum c.args.at value) o) (sym c.find.ensures) ∙ c.in_ok-value.ensures)
          (ap (map map_entry_of) c.in_ok-push.ensures.items
          ∙ map-append map_entry_of c.loop-entry.entries.items (c.make_entry.result ∷ [])
          ∙ ap (λ f. map map_entry_of c.loop-entry.entries.items ++ f ∷ []) c.make_entry.ensures),
    )

pub unite_copy-returns-in_err-entries : goal.unite_copy-returns-in_err-entries
unite_copy-returns-in_err-entries t c =
    let first = map map_entry_of c.args.first.items in
    let second = map map_entry_of c.args.second.now in
    let r : c.from_residual-in_err-entries.result ≡ Err c.in_err-entries.field-0.0 = search rules in
    let h = passes meaning c.from_residual-in_err-entries.result c.in_err-entries.field-0.0 (sum_entries c.args.at
    (map_entries_then first no_map_entry) second) (λ hs. Ok (body (hs ++ others second first))) (search rules) r in
    rw (sum_bodies c.args.at first second) h

pub unite_copy-returns : goal.unite_copy-returns
unite_copy-returns t c =
    let first = map map_entry_of c.args.first.items in
    let second = map map_entry_of c.args.second.now in
    let summed = map map_entry_of c.in_ok-entries.entries.items in
    let table = c.in_ok-table.table in
    let index : IsIndex table second = search rules in
    let each : sum_entries c.args.at (map_entries_then first no_map_entry) second ≡ Ok summed = search rules in
    let found : HasMet c.in_ok-met.met table summed = search rules in
    let combined_value =
    met_alike table c.in_ok-met.met summed first (λ q. summed_names c.args.at q first second summed each) found in
    let left : map map_entry_of c.in_ok-others.others.items ≡ others second first =
    c.in_ok-others.ensures ∙ others_of table c.in_ok-met.met first second index combined_value in
    let all : map map_entry_of c.append.new.self.items ≡ summed ++ others second first =
    ap (map map_entry_of) c.in_ok-append.ensures.items
    ∙ map-append map_entry_of c.in_ok-entries.entries.items c.in_ok-others.others.items
    ∙ ap (λ l. summed ++ l) left in
    rw (sum_bodies c.args.at first second, each, ← all) (ap (λ v. Ok v) (sym c.map_value.ensures))
