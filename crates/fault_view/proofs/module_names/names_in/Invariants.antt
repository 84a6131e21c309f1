use Rattle.std.proofs.Common.{◌≡◌, ◌++◌, drop}
use Rattle.fault_view.specs.ModuleNames.{token_names}
use Rattle.fault_view.proofs.module_names.names_in.Given as goal

-- what is there, and the names in the tokens that are left, are all names
abbrev pub invariant-loop-at : goal.invariant-loop-at
invariant-loop-at l = l.names.items ++ token_names l.text (drop l.at l.tokens) ≡ token_names l.text l.tokens
