use Rattle.ninja_write.proofs.Guarded.{guarded}
use Rattle.ninja_write.proofs.laws.written_paths_are_guarded.Goals as goal

pub returns : goal.returns
returns c = guarded
