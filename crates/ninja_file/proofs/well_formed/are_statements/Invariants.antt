use Rattle.std.proofs.Common.{ℕ, ◌<◌, List, get_or}
use Rattle.ninja_file.specs.declared.file.Statement.{Statement}
use Rattle.bp_names.specs.Meaning.{IsSetOf}
use Rattle.ninja_file.specs.Meaning.{IsStatement}
use Rattle.ninja_file.proofs.well_formed.are_statements.Given as goal

-- the first statements are well formed
abbrev pub invariant-loop-statement : goal.invariant-loop-statement
invariant-loop-statement l =
    (texts : List (List ℕ)) → IsSetOf texts l.names → (k : ℕ) (d : Statement) → k < l.statement-index
    → IsStatement texts (get_or l.statements k d)
