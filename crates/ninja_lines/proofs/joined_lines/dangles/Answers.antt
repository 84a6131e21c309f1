use Rattle.std.proofs.Common.{arith}
use Rattle.std.proofs.lemmas.Bool.Decides.{nat_tests}
use Rattle.ninja_lines.proofs.Glue.{dangles-drop}
use Rattle.ninja_lines.proofs.joined_lines.dangles.Goals as goal
use Rattle.ninja_lines.proofs.joined_lines.dangles.Goals.{then-not-behind, else-not-behind}

pub loop-byte-preserved : goal.loop-byte-preserved
loop-byte-preserved c =
    let e = dangles-drop c.loop-byte.behind c.args.text.now c.loop-byte.byte-index c.loop-byte-test.true in
    elim c.if-not-behind.branch [
      | then-not-behind w ↦ grind (arith, nat_tests)
      | else-not-behind w ↦ grind (arith, nat_tests)
    ]
