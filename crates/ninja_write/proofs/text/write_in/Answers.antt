use Rattle.std.proofs.Common.{arith}
use Rattle.std.proofs.lemmas.Grind.{common_steps}
use Rattle.ninja_write.proofs.Cuts.{text-thirds}
use Rattle.ninja_write.proofs.text.write_in.Goals as goal

pub returns-in_err-put_front-clause-too_large : goal.returns-in_err-put_front-clause-too_large
returns-in_err-put_front-clause-too_large g c = λ e. rw (text-thirds c.args.f.now) (grind (arith, common_steps))

pub returns-in_err-output-clause-too_large : goal.returns-in_err-output-clause-too_large
returns-in_err-output-clause-too_large g c = λ e. rw (text-thirds c.args.f.now) (grind (arith, common_steps))

pub returns-in_err-put_defaults-clause-too_large : goal.returns-in_err-put_defaults-clause-too_large
returns-in_err-put_defaults-clause-too_large g c = λ e. rw (text-thirds c.args.f.now) (grind (arith, common_steps))

pub returns-clause-text : goal.returns-clause-text
returns-clause-text g c = rw (text-thirds c.args.f.now) (grind (arith, common_steps))
