use Rattle.std.proofs.Common.{◌+◌, drop, arith}
use Rattle.std.proofs.lemmas.Grind.{common_steps}
use Rattle.std.specs.List.{flat_map}
use Rattle.ninja_write.proofs.Grows.{refused}
use Rattle.ninja_write.proofs.output.put_all.Goals as goal

pub returns-in_err-put : goal.returns-in_err-put
returns-in_err-put g c =
    refused c.from_residual.result (flat_map g.W.Written.text (drop (c.loop-one.one-index + 1) c.args.all.now))
    c.from_residual.ensures.1 (grind (arith, common_steps)) c.in_err-put.ensures
