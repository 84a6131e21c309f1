use Rattle.std.proofs.Common.{◌≡◌, drop}
use Rattle.command_words.specs.Values.{targets_named}
use Rattle.command_words.proofs.Joining.{behind, said}
use Rattle.command_words.proofs.targets.targets_named.Given as goal

abbrev pub invariant-loop-name : goal.invariant-loop-name
invariant-loop-name l =
    targets_named (said l.names) ≡ behind l.targets.items (targets_named (said (drop l.name-index l.names)))
