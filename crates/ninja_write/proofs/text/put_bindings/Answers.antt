use Rattle.ninja_write.specs.Meaning.{binding_line}
use Rattle.ninja_write.proofs.Lines.{joined-map}
use Rattle.ninja_write.proofs.text.put_bindings.Goals as goal

pub returns : goal.returns
returns c = rw (joined-map binding_line c.args.bindings.now) c.put_all.ensures
