use Rattle.std.proofs.Common.{ℕ, ◌<◌, get_or}
use Rattle.ninja_file.specs.declared.file.NinjaRule.{NinjaRule}
use Rattle.ninja_file.specs.Meaning.{IsRule}
use Rattle.ninja_file.proofs.well_formed.are_rules.Given as goal

-- the first rules are well formed
abbrev pub invariant-loop-rule : goal.invariant-loop-rule
invariant-loop-rule l = (k : ℕ) (d : NinjaRule) → k < l.rule-index → IsRule (get_or l.rules k d)
