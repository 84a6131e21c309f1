use Rattle.ninja_write.proofs.Least.{path_read}
use Rattle.ninja_write.proofs.text.TextWritten.least.Goals as goal

pub returns : goal.returns
returns c = path_read c.args.self.now c.as_str.result.now c.as_str.ensures
