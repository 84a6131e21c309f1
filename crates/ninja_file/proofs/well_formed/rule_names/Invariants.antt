use Rattle.std.proofs.Common.{◌≡◌, map, take}
use Rattle.ninja_file.proofs.well_formed.rule_names.Given as goal

-- the first names are listed
abbrev pub invariant-loop-rule : goal.invariant-loop-rule
invariant-loop-rule l = map (λ name. name.now) l.names.items ≡ map (λ rule. rule.name) (take l.rule-index l.rules)
