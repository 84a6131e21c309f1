use Rattle.std.proofs.Common.{arith, refl}
use Rattle.ninja_file.specs.Meaning.{IsStatement}
use Rattle.ninja_file.proofs.Firsts.{one_more}
use Rattle.ninja_file.proofs.well_formed.are_statements.Goals as goal

pub loop-statement-preserved : goal.loop-statement-preserved
loop-statement-preserved c =
    λ texts is. one_more (IsStatement texts) c.args.statements.now c.loop-statement.statement-index
    c.statement-item.result c.loop-statement-test.true c.statement-item.is
    ((c.in_ok-is_statement.ensures texts is).0 c.if-not-branch.false) (c.loop-statement.invariant texts is)

pub returns : goal.returns
returns c = λ texts is. (λ e k d inside. c.loop-statement.invariant texts is k d (omega arith), λ all. refl)
