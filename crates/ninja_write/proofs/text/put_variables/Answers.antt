use Rattle.ninja_write.specs.Meaning.{variable_line}
use Rattle.ninja_write.proofs.Lines.{joined-map}
use Rattle.ninja_write.proofs.text.put_variables.Goals as goal

pub returns : goal.returns
returns c = rw (joined-map variable_line c.args.variables.now) c.put_all.ensures
