use Rattle.std.proofs.Common.{arith, length, ◌+◌, ◌<◌, ◌≡◌, get_or}
use Rattle.bp_lexer.specs.Classes.{in_line}
use Rattle.bp_lexer.proofs.Bodies.{plain_more, pair_more, line_ends, slash_ends, slash_last, past_pair, past_plain}
use Rattle.bp_lexer.proofs.Bodies.{so_far_plain, line_ok}
use Rattle.bp_lexer.proofs.body.body_len.Goals as goal
use Rattle.bp_lexer.proofs.body.body_len.Goals.{then-n-rest-via-then-n-rest}
use Rattle.bp_lexer.proofs.body.body_len.Goals.{then-n-rest-via-else-n-rest+then-rest-n-eq10}

pub returns-in-10-clause-flaw : goal.returns-in-10-clause-flaw
returns-in-10-clause-flaw c =
    line_ends c.args.rest.now c.loop-n.n c.loop-n-test.true c.loop-n.invariant.rough c.loop-n.invariant.least c.in-10.is

pub returns-then-n-rest-clause-flaw : goal.returns-then-n-rest-clause-flaw
returns-then-n-rest-clause-flaw c =
    elim c.then-n-rest.branch [
      | then-n-rest-via-then-n-rest w ↦ slash_last c.args.rest.now c.loop-n.n
          (omega (arith, w.if-n-rest.true)) c.loop-n.invariant.least c.in-92.is
      | then-n-rest-via-else-n-rest+then-rest-n-eq10 w ↦
          slash_ends c.args.rest.now c.loop-n.n (omega (arith, c.loop-n-test.true, w.if-n-rest.false))
          c.loop-n.invariant.rough c.loop-n.invariant.least c.in-92.is w.if-rest-n-eq10.true
    ]

pub loop-n-preserved-in-92 : goal.loop-n-preserved-in-92
loop-n-preserved-in-92 c =
    let within : c.loop-n.n + 1 < length c.args.rest.now = omega (arith, c.loop-n-test.true, c.if-n-rest.false) in
    record {
      within = omega arith;
      rough =
          pair_more in_line c.args.rest.now c.loop-n.n within c.loop-n.invariant.rough c.in-92.is
          (line_ok _ c.if-rest-n-eq10.false);
      least = past_pair c.args.rest.now c.loop-n.n within c.loop-n.invariant.rough c.loop-n.invariant.least c.in-92.is;
      escapes = c.first_bad-bad.ensures;
    }

pub loop-n-preserved : goal.loop-n-preserved
loop-n-preserved c =
    let quote : get_or c.args.rest.now c.loop-n.n 0 ≡ 34 → ⊥ = λ e. omega arith in
    let line : get_or c.args.rest.now c.loop-n.n 0 ≡ 10 → ⊥ = λ e. omega arith in
    let slash : get_or c.args.rest.now c.loop-n.n 0 ≡ 92 → ⊥ = λ e. omega arith in
    record {
      within = omega arith;
      rough =
          plain_more in_line c.args.rest.now c.loop-n.n c.loop-n-test.true c.loop-n.invariant.rough quote line slash;
      least = past_plain c.args.rest.now c.loop-n.n c.loop-n.invariant.least quote;
      escapes =
          so_far_plain c.args.rest.now c.loop-n.n c.loop-n.bad c.loop-n-test.true quote line slash
          c.loop-n.invariant.escapes;
    }
