use Rattle.std.proofs.Common.{rules, refl, Vec, Global, ◌≡◌, ◌++◌, map, ap, ◌∙◌, Ok, Err}
use Rattle.std.proofs.lemmas.List.{map-append}
use Rattle.bp_values.specs.Values.{map_entry_of, body, map_entries_then, no_map_entry}
use Rattle.bp_values.specs.declared.value.Entry.{Entry}
use Rattle.bp_values.specs.Sums.{sum_entries, others}
use Rattle.bp_values.specs.Inside.{IsIndex, HasMet}
use Rattle.bp_values.proofs.Unite.{sum_bodies, passes, summed_names}
use Rattle.bp_values.proofs.Shared.{others_of, met_alike}
use Rattle.bp_values.proofs.sums.unite.Goals as goal

pub returns-in_err-entries : goal.returns-in_err-entries
returns-in_err-entries c =
    let first = map map_entry_of c.args.first.items in
    let second = map map_entry_of c.args.second.items in
    let r : c.from_residual-in_err-entries.result ≡ Err c.in_err-entries.field-0.0 = search rules in
    let h = passes (λ (es : Vec Entry Global). body (map map_entry_of es.items)) c.from_residual-in_err-entries.result
    c.in_err-entries.field-0.0 (sum_entries c.args.at (map_entries_then first no_map_entry) second)
    (λ hs. Ok (body (hs ++ others second first))) (search rules) r in
    rw (sum_bodies c.args.at first second) h

pub returns : goal.returns
returns c =
    let first = map map_entry_of c.args.first.items in
    let second = map map_entry_of c.args.second.items in
    let summed = map map_entry_of c.in_ok-entries.entries.items in
    let table = c.in_ok-table.table in
    let index : IsIndex table second = search rules in
    let each : sum_entries c.args.at (map_entries_then first no_map_entry) second ≡ Ok summed = search rules in
    let found : HasMet c.in_ok-met.met table summed = search rules in
    let met =
    met_alike table c.in_ok-met.met summed first (λ q. summed_names c.args.at q first second summed each) found in
    let left : map map_entry_of c.in_ok-others.others.items ≡ others second first =
    c.in_ok-others.ensures ∙ others_of table c.in_ok-met.met first second index met in
    let all : map map_entry_of c.append.new.self.items ≡ summed ++ others second first =
    ap (map map_entry_of) c.in_ok-append.ensures.items
    ∙ map-append map_entry_of c.in_ok-entries.entries.items c.in_ok-others.others.items
    ∙ ap (λ l. summed ++ l) left in
    rw (sum_bodies c.args.at first second, each, ← all) refl
