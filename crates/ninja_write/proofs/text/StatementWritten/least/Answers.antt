use Rattle.std.proofs.Common.{◌≤◌, List, ℕ, length, subst, arith}
use Rattle.std.specs.List.{flat_map}
use Rattle.ninja_write.specs.Meaning.{spaced_paths, variable_line}
use Rattle.ninja_write.proofs.Least.{statement_has}
use Rattle.bp_faults.specs.Characters.{ended_line}
use Rattle.ninja_write.proofs.text.StatementWritten.least.Goals as goal

pub returns : goal.returns
returns c =
    let s = c.args.self.now in
    omega (
      arith,
      c.saturating_add.ensures,
      c.saturating_add-paths.ensures,
      statement_has s c.least_of_all.result c.least_of_all-2.result c.least_of_all-3.result
          (subst (λ (outs : List (List ℕ)). c.least_of_all.result ≤ length (spaced_paths outs)) c.as_slice.ensures
          c.least_of_all.ensures)
          (subst (λ (ins : List (List ℕ)). c.least_of_all-2.result ≤ length (spaced_paths ins)) c.as_slice-2.ensures
          c.least_of_all-2.ensures)
          (subst (λ (vars : List (List ℕ × List ℕ)). c.least_of_all-3.result
          ≤ length (flat_map (λ v. ended_line (variable_line v)) vars)) c.as_slice-3.ensures c.least_of_all-3.ensures),
    )
