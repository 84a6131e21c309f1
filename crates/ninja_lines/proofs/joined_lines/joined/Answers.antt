use Rattle.std.proofs.Common.{length, arith, ap}
use Rattle.std.proofs.lemmas.List.{length-map}
use Rattle.ninja_lines.proofs.LinesRead.{length-lines}
use Rattle.ninja_lines.proofs.joined_lines.joined.Goals as goal

pub next_line-requires-clause-few : goal.next_line-requires-clause-few
next_line-requires-clause-few c =
    omega (
      arith,
      length-lines c.args.text.now,
      simp length-map at (ap length c.in_ok-listed.ensures),
      ap length c.as_slice-lines.ensures.value,
    )
