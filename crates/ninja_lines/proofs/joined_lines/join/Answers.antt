use Rattle.std.proofs.Common.{arith, ap, sym, ◌∙◌, false}
use Rattle.ninja_lines.specs.Meaning.{dangles, drop_spaces}
use Rattle.ninja_lines.proofs.JoinedAt.{closed_by_not_text, closed_by_line, stays_open}
use Rattle.ninja_lines.proofs.joined_lines.join.Goals as goal

pub returns-in_default : goal.returns-in_default
returns-in_default c =
    closed_by_not_text c.args.lines.now c.args.first c.loop-at.at c.loop-at.text _ c.not_text.result
    c.loop-at.invariant.behind c.loop-at-test.true c.loop-at.invariant.same c.in_default.ensures c.not_text.ensures

pub returns-then-not-dangles : goal.returns-then-not-dangles
returns-then-not-dangles c =
    closed_by_line c.args.lines.now c.args.first c.loop-at.at c.loop-at.text c.drop_spaces-rest.result.now _ _
    c.joined_line.result c.loop-at.invariant.behind c.loop-at-test.true c.loop-at.invariant.same c.in-Some.ensures.0
    (c.drop_spaces-rest.ensures ∙ ap drop_spaces c.in-Some.ensures.1) (ap (dangles false) (sym c.as_bytes.ensures.value)
    ∙ sym c.if-not-dangles.ensures) c.in_ok-push_str.ensures.ok c.joined_line.ensures

pub loop-at-preserved : goal.loop-at-preserved
loop-at-preserved c = record {
  within = omega arith;
  behind = omega arith;
  same =
      stays_open c.args.lines.now c.args.first c.loop-at.at c.loop-at.text c.drop_spaces-rest.result.now
      c.without_dollar-in-loop-at.result.now _ _ c.loop-at-test.true c.loop-at.invariant.same c.in-Some.ensures.0
      (c.drop_spaces-rest.ensures ∙ ap drop_spaces c.in-Some.ensures.1)
      (ap (dangles false) (sym c.as_bytes.ensures.value) ∙ sym c.if-not-dangles.ensures)
      c.without_dollar-in-loop-at.ensures c.in_ok-push_str-2.ensures.ok;
}
