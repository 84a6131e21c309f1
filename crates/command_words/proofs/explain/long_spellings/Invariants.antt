use Rattle.std.proofs.Common.{◌≡◌, map, take}
use Rattle.command_words.specs.Explanations.{long_spelling}
use Rattle.command_words.proofs.explain.long_spellings.Given as goal

abbrev pub invariant-loop-option : goal.invariant-loop-option
invariant-loop-option l = l.spellings.items ≡ map long_spelling (take l.option-index l.option-items)
