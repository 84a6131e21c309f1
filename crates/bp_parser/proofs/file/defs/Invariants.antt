use Rattle.std.proofs.Common.{length, ◌-◌, ◌≡◌, ◌≤◌, drop, map, List, [], ◌++◌}
use Rattle.bp_parser.specs.Trees.{Definition, definition_of}
use Rattle.bp_parser.specs.Words.{all_words}
use Rattle.bp_parser.specs.Grammar.{SpellsFile}
use Rattle.bp_parser.specs.Machine.{stuck}
use Rattle.bp_parser.proofs.file.defs.Given as goal

abbrev pub invariant-reading : goal.invariant-reading
invariant-reading l = record {
  within : l.next ≤ length l.words;
  spells : (more : List Definition) → SpellsFile more (drop l.next (all_words l.text l.words))
      → SpellsFile (map definition_of l.defs.items ++ more) (all_words l.text l.words);
  goes_on : stuck (all_words l.text l.words) 0 [] ≡ stuck (drop l.next (all_words l.text l.words)) l.next [];
}

abbrev pub decreases-reading : goal.decreases-reading
decreases-reading l = length l.words - l.next
