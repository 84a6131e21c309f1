use Rattle.std.proofs.Common.{◌≡◌, ℕ, List, map, drop}
use Rattle.bp_parser.specs.Trees.{tree_of, entry_of, term_of, trees_then, terms_then, entries_then, no_tree, no_term}
use Rattle.bp_parser.specs.Trees.{no_entry}
use Rattle.bp_values.specs.Inside.{is_noted, noted_items, noted_terms, noted_entries}
use Rattle.bp_values.proofs.marks.+marks.Given as goal

abbrev pub invariant-note_items-items : goal.invariant-note_items-items
invariant-note_items-items l = (q : List ℕ)
    → noted_items (is_noted l.fn.used q) q (trees_then (map tree_of l.items) no_tree)
    ≡ noted_items (is_noted l.used q) q (trees_then (map tree_of (drop l.item-index l.items)) no_tree)

abbrev pub invariant-note_terms-terms : goal.invariant-note_terms-terms
invariant-note_terms-terms l = (q : List ℕ)
    → noted_terms (is_noted l.fn.used q) q (terms_then (map term_of l.terms) no_term)
    ≡ noted_terms (is_noted l.used q) q (terms_then (map term_of (drop l.term-index l.terms)) no_term)

abbrev pub invariant-note_entries-entries : goal.invariant-note_entries-entries
invariant-note_entries-entries l = (q : List ℕ)
    → noted_entries (is_noted l.fn.used q) q (entries_then (map entry_of l.entries) no_entry)
    ≡ noted_entries (is_noted l.used q) q (entries_then (map entry_of (drop l.entry-index l.entries)) no_entry)
