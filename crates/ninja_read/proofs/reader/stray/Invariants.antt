use Rattle.std.proofs.Common.{◌≡◌, ℕ, List, drop}
use Rattle.bp_names.specs.Meaning.{IsSetOf}
use Rattle.ninja_read.specs.Meaning.{stray}
use Rattle.ninja_read.proofs.reader.stray.Given as goal

-- what is left decides
abbrev pub invariant-loop-number : goal.invariant-loop-number
invariant-loop-number l =
    (texts : List (List ℕ)) → IsSetOf texts l.outs
    → stray texts (drop l.number-index l.defaults) ≡ stray texts l.defaults
