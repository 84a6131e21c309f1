use Rattle.std.proofs.Common.{subst}
use Rattle.graph_picture.specs.Run.{RunMeans}
use Rattle.graph_picture.specs.Streams.{input_stream, stream}
use Rattle.graph_picture.proofs.program.run.Goals as goal

pub returns-in-Ok : goal.returns-in-Ok
returns-in-Ok g c = c.answer_asked.ensures c.args.words.now c.in-Ok.ensures
