use Rattle.std.proofs.Common.{subst}
use Rattle.std.specs.Option.{option_copied}
use Rattle.graph_picture.specs.Run.{DrawMeans}
use Rattle.graph_picture.specs.Streams.{input_stream, stream}
use Rattle.graph_picture.proofs.Runs.{answer_means, unread_means}
use Rattle.graph_picture.proofs.program.answer.Goals as goal

pub returns-in-Ok : goal.returns-in-Ok
returns-in-Ok g c =
    answer_means c.in-Ok.bytes.items (option_copied c.args.focus) (input_stream g.I.Input c.args.input.now)
    (input_stream g.I.Input c.read_input.new.input) (stream g.O.Sink c.args.out.now) (stream g.O.Sink c.draw.new.out)
    c.draw.result c.in-Ok.ensures.1
    (subst (λ bytes. DrawMeans bytes (option_copied c.args.focus) (stream g.O.Sink c.args.out.now)
    (stream g.O.Sink c.draw.new.out) c.draw.result) c.deref.ensures.value c.draw.ensures)

pub returns-in-Err : goal.returns-in-Err
returns-in-Err g c =
    unread_means (option_copied c.args.focus) (input_stream g.I.Input c.args.input.now)
    (input_stream g.I.Input c.read_input.new.input) (stream g.O.Sink c.args.out.now) _ c.in-Err.ensures
