use Rattle.std.proofs.Common.{ℕ, List}
use Rattle.bp_names.specs.Meaning.{IsSetOf}
use Rattle.ninja_read.proofs.Outs.{Adds}
use Rattle.ninja_read.proofs.reader.add_outs.Given as goal

-- the first outs are in the set, and what is left decides
abbrev pub invariant-loop-out : goal.invariant-loop-out
invariant-loop-out l = (texts : List (List ℕ)) → IsSetOf texts l.fn.seen → Adds texts l.outs l.out-index l.seen
