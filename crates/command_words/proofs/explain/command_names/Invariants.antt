use Rattle.std.proofs.Common.{◌≡◌, map, take}
use Rattle.command_words.specs.Options.{command_name}
use Rattle.command_words.proofs.explain.command_names.Given as goal

abbrev pub invariant-loop-command : goal.invariant-loop-command
invariant-loop-command l = l.names.items ≡ map command_name (take l.command-index l.command-items)
