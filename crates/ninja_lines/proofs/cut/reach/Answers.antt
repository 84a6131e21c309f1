use Rattle.std.proofs.Common.{arith}
use Rattle.std.proofs.lemmas.Bool.Decides.{nat_tests}
use Rattle.ninja_lines.proofs.Cuts.{reach-drop}
use Rattle.ninja_lines.proofs.cut.reach.Goals as goal
use Rattle.ninja_lines.proofs.cut.reach.Goals.{then-behind, else-behind+then-byte-eq36}
use Rattle.ninja_lines.proofs.cut.reach.Goals.{else-behind+else-byte-eq36+else-byte-at}

pub loop-index-preserved : goal.loop-index-preserved
loop-index-preserved c =
    let e = reach-drop c.args.at c.loop-index.behind c.args.bytes.now c.loop-index.index c.loop-index-test.true in
    elim c.if-behind.branch [
      | then-behind w ↦ grind (arith, nat_tests)
      | else-behind+then-byte-eq36 w ↦ grind (arith, nat_tests)
      | else-behind+else-byte-eq36+else-byte-at w ↦ grind (arith, nat_tests)
    ]

pub returns-then-byte-at-clause-reach : goal.returns-then-byte-at-clause-reach
returns-then-byte-at-clause-reach c =
    let e = reach-drop c.args.at c.loop-index.behind c.args.bytes.now c.loop-index.index c.loop-index-test.true in
    grind (arith, nat_tests)
