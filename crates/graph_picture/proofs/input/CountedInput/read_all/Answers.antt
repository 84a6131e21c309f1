use Rattle.std.proofs.Common.{◌≡◌, ◌≤◌, ◌+◌, length, arith, ap}
use Rattle.std.proofs.lemmas.Grind.{common_steps}
use Rattle.std.specs.Io.Take.{take_limit}
use Rattle.graph_picture.proofs.Inputs.{all_taken}
use Rattle.graph_picture.proofs.input.CountedInput.read_all.Goals as goal

pub returns-in-Ok-clause-gives : goal.returns-in-Ok-clause-gives
returns-in-Ok-clause-gives g c =
    let one : take_limit c.set_limit.new.self ≡ c.args.limit + 1 = grind (arith, common_steps) in
    let few : length c.read_to_end.new.buf.items ≤ c.args.limit = grind (arith, common_steps) in
    all_taken _ _ c.args.limit _ _ _ (ap g.R.Read.remaining c.set_limit.ensures.inner) one
    c.new-bytes.ensures.items few c.in-Ok.ensures.bytes
