use Rattle.std.proofs.Common.{ap, arith, length}
use Rattle.bp_pipeline.proofs.Counting.{statements_few}
use Rattle.bp_pipeline.proofs.text.text_of.Goals as goal

pub returns-in-Ok-clause-few : goal.returns-in-Ok-clause-few
returns-in-Ok-clause-few g c =
    let same = ap length c.in-Ok.ensures.text in
    let few = statements_few c.args.file.now in
    omega (arith, same, few, c.in-Ok.ensures.fits)
