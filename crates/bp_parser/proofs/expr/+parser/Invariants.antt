use Rattle.std.proofs.Common.{◌≡◌, ◌<◌, ◌≤◌, length, drop, map, ℕ, ◌+◌, ◌-◌, ◌*◌, List, [], ◌∷◌}
use Rattle.bp_lexer.specs.declared.token.Punct.TheVariants.{OpenBrace, CloseBrace}
use Rattle.bp_parser.specs.Trees.{tree_of, term_of, entry_of, trees_then, terms_then, entries_then, Trees, Terms}
use Rattle.bp_parser.specs.Trees.{Entries}
use Rattle.bp_parser.specs.Words.{Word, all_words}
use Rattle.bp_parser.specs.Grammar.{SpellsTerms, SpellsItems, SpellsEntries}
use Rattle.bp_parser.specs.Flaws.{SpellsFirst}
use Rattle.bp_parser.specs.Machine.{Part, more_terms, items, entries, stuck, depth_of, is_among}
use Rattle.bp_parser.specs.Reading.{HasMark, LacksMark}
use Rattle.bp_names.specs.Meaning.{knows}
use Rattle.bp_parser.proofs.Steps.{names_in}
use Rattle.bp_parser.proofs.expr.+parser.Given as goal

abbrev pub decreases-prim_at : goal.decreases-prim_at
decreases-prim_at l = 4 * (length l.words.now - l.at)

abbrev pub decreases-expr_at : goal.decreases-expr_at
decreases-expr_at l = 4 * (length l.words.now - l.at) + 1

abbrev pub decreases-terms_at : goal.decreases-terms_at
decreases-terms_at l = 4 * (length l.words.now - l.at) + 1

abbrev pub decreases-list_at : goal.decreases-list_at
decreases-list_at l = 4 * (length l.words.now - l.at) + 2

abbrev pub decreases-map_at : goal.decreases-map_at
decreases-map_at l = 4 * (length l.words.now - l.at) - 1

abbrev pub invariant-terms_at-reading : goal.invariant-terms_at-reading
invariant-terms_at-reading l = record {
  started : l.at ≤ l.next;
  within : l.next ≤ length l.words;
  spells : (more : Terms) (rest : List Word) → SpellsTerms more (drop l.next (all_words l.text l.words)) rest
      → SpellsTerms (terms_then (map term_of l.terms.items) more) (drop l.at (all_words l.text l.words)) rest;
  goes_on : (parts : List Part) → depth_of parts ≡ l.depth → stuck (drop l.at (all_words l.text l.words)) l.at
      (more_terms ∷ parts) ≡ stuck (drop l.next (all_words l.text l.words)) l.next (more_terms ∷ parts);
}

abbrev pub decreases-terms_at-reading : goal.decreases-terms_at-reading
decreases-terms_at-reading l = length l.words - l.next

abbrev pub invariant-list_at-reading : goal.invariant-list_at-reading
invariant-list_at-reading l = record {
  started : l.at ≤ l.next;
  within : l.next ≤ length l.words;
  spells : (more : Trees) (rest : List Word) → SpellsItems more (drop l.next (all_words l.text l.words)) rest
      → SpellsItems (trees_then (map tree_of l.list.items) more) (drop l.at (all_words l.text l.words)) rest;
  goes_on : (parts : List Part) → depth_of parts ≡ l.depth → stuck (drop l.at (all_words l.text l.words)) l.at
      (items ∷ parts) ≡ stuck (drop l.next (all_words l.text l.words)) l.next (items ∷ parts);
}

abbrev pub decreases-list_at-reading : goal.decreases-list_at-reading
decreases-list_at-reading l = length l.words - l.next

abbrev pub invariant-map_at-reading : goal.invariant-map_at-reading
invariant-map_at-reading l = record {
  started : l.at < l.next;
  within : l.next ≤ length l.words;
  opened : HasMark OpenBrace l.words l.at;
  known : (q : List ℕ) → knows l.known q ≡ is_among q (names_in l.entries.items);
  first : LacksMark CloseBrace l.words l.next → (more : Entries) (rest : List Word)
      → SpellsFirst more (drop l.next (all_words l.text l.words)) rest
      → SpellsFirst (entries_then (map entry_of l.entries.items) more)
      (drop (l.at + 1) (all_words l.text l.words)) rest;
  spells : (more : Entries) (rest : List Word) → SpellsEntries more (drop l.next (all_words l.text l.words)) rest
      → SpellsEntries (entries_then (map entry_of l.entries.items) more)
      (drop (l.at + 1) (all_words l.text l.words)) rest;
  goes_on : (parts : List Part) → depth_of parts ≡ l.depth
      → stuck (drop (l.at + 1) (all_words l.text l.words)) (l.at + 1) (entries [] ∷ parts)
      ≡ stuck (drop l.next (all_words l.text l.words)) l.next (entries (names_in l.entries.items) ∷ parts);
}

abbrev pub decreases-map_at-reading : goal.decreases-map_at-reading
decreases-map_at-reading l = length l.words - l.next
