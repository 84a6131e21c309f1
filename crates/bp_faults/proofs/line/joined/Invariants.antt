use Rattle.std.proofs.Common.{◌≡◌, ◌++◌, drop, string_bytes}
use Rattle.bp_faults.specs.Line.{after_arrows, chain_of}
use Rattle.bp_faults.proofs.line.joined.Given as goal

-- what is there, and the names that are left, are the whole chain
abbrev pub invariant-loop-name : goal.invariant-loop-name
invariant-loop-name l = string_bytes l.text ++ after_arrows (drop l.name-index l.rest) ≡ chain_of l.chain
