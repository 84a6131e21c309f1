use Rattle.std.proofs.Common.{◌≡◌, [], take, drop}
use Rattle.std.specs.List.{flat_map}
use Rattle.bp_names.specs.Meaning.{IsSetOf}
use Rattle.ninja_read.specs.Meaning.{repeated_out}
use Rattle.ninja_read.proofs.reader.outs_of.Given as goal

-- the outs of the first statements are in the set, and what is left decides
abbrev pub invariant-loop-number : goal.invariant-loop-number
invariant-loop-number l = record {
  set : IsSetOf (flat_map (λ s. s.1.outs) (take l.number-index l.statements)) l.seen;
  same : repeated_out (flat_map (λ s. s.1.outs) (take l.number-index l.statements)) (drop l.number-index l.statements)
      ≡ repeated_out [] l.statements;
}
