use Rattle.std.proofs.Common.{◌≤◌, List, length, subst, arith}
use Rattle.ninja_file.specs.declared.file.Statement.{Statement}
use Rattle.ninja_write.specs.Inside.{statements_text}
use Rattle.ninja_write.proofs.Least.{file_has}
use Rattle.ninja_write.proofs.text.check_size.Goals as goal

pub returns-then-least_of_all-gt-LARGEST_OUTPUT : goal.returns-then-least_of_all-gt-LARGEST_OUTPUT
returns-then-least_of_all-gt-LARGEST_OUTPUT c is =
    omega (
      arith,
      c.if-least_of_all-gt-LARGEST_OUTPUT.true,
      file_has c.args.f.now,
      subst (λ (all : List Statement). c.least_of_all.result ≤ length (statements_text all))
          c.as_slice-statements.ensures c.least_of_all.ensures,
    )
