use Rattle.std.proofs.Common.{arith}
use Rattle.std.proofs.lemmas.Grind.{common_steps}
use Rattle.ninja_write.proofs.Cuts.{text-thirds}
use Rattle.ninja_write.proofs.text.put_file.Goals as goal

pub returns-in_err-put_front : goal.returns-in_err-put_front
returns-in_err-put_front c = rw (text-thirds c.args.file.now) (grind (arith, common_steps))

pub returns-in_err-put_all : goal.returns-in_err-put_all
returns-in_err-put_all c = rw (text-thirds c.args.file.now) (grind (arith, common_steps))

pub returns : goal.returns
returns c = rw (text-thirds c.args.file.now) (grind (arith, common_steps))
