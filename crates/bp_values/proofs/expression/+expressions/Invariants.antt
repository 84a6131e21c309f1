use Rattle.std.proofs.Common.{◌≡◌, map, drop, ◌++◌, Ok}
use Rattle.bp_parser.specs.Trees.{tree_of, entry_of, trees_then, terms_then, entries_then, no_tree, no_term, no_entry}
use Rattle.bp_values.specs.Values.{meaning, map_entry_of, body}
use Rattle.bp_faults.specs.Answers.{then_do}
use Rattle.bp_values.specs.Inside.{sum_so_far, HasIndices}
use Rattle.bp_values.specs.Scopes.{pairs_of}
use Rattle.bp_values.specs.Expressions.{val_items, val_terms, val_entries}
use Rattle.bp_parser.specs.Trees.{term_of}
use Rattle.bp_values.proofs.expression.+expressions.Given as goal

abbrev pub invariant-items_of-items : goal.invariant-items_of-items
invariant-items_of-items l =
    val_items (pairs_of l.scope) (trees_then (map tree_of l.items) no_tree)
    ≡ then_do (val_items (pairs_of l.scope) (trees_then (map tree_of (drop l.expr-index l.items)) no_tree))
    (λ rest. Ok (l.list.items ++ rest))

abbrev pub invariant-add_terms-terms : goal.invariant-add_terms-terms
invariant-add_terms-terms l =
    val_terms (pairs_of l.scope) (meaning l.fn.first) (terms_then (map term_of l.terms) no_term)
    ≡ val_terms (pairs_of l.scope) (meaning l.total) (terms_then (map term_of (drop l.at-index l.terms)) no_term)

abbrev pub invariant-all_entries-entries : goal.invariant-all_entries-entries
invariant-all_entries-entries l =
    val_entries (pairs_of l.scope) (entries_then (map entry_of l.entries) no_entry)
    ≡ then_do (val_entries (pairs_of l.scope) (entries_then (map entry_of (drop l.entry-index l.entries)) no_entry))
    (λ rest. Ok (map map_entry_of l.list.items ++ rest))

abbrev pub invariant-add_maps-terms : goal.invariant-add_maps-terms
invariant-add_maps-terms l =
    HasIndices l.total
    × (val_terms (pairs_of l.scope) (body (map map_entry_of l.fn.first.items))
    (terms_then (map term_of l.terms) no_term)
    ≡ val_terms (pairs_of l.scope) (sum_so_far l.total) (terms_then (map term_of (drop l.at-index l.terms)) no_term))
