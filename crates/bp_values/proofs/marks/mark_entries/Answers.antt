use Rattle.std.proofs.Common.{rules, ◌≡◌, ℕ, List, true, map}
use Rattle.bp_parser.specs.Trees.{entry_of, entries_then, no_entry}
use Rattle.bp_values.specs.Inside.{is_noted}
use Rattle.bp_values.proofs.Noted.{all_entries_noted}
use Rattle.bp_values.proofs.marks.mark_entries.Goals as goal

pub returns-then-are_idle : goal.returns-then-are_idle
returns-then-are_idle c =
    let idle : (q : List ℕ) → is_noted c.args.used.now q ≡ true = search rules in
    λ q.
    all_entries_noted (entries_then (map entry_of c.args.entries.now) no_entry) (is_noted c.args.used.now q) q (idle q)
