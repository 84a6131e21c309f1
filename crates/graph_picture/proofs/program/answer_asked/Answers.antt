use Rattle.std.proofs.Common.{refl, subst}
use Rattle.std.specs.Prelude.{Some, None}
use Rattle.graph_picture.specs.Streams.{input_stream, stream}
use Rattle.graph_picture.specs.Words.{WordsMean}
use Rattle.graph_picture.proofs.Runs.{run_means}
use Rattle.graph_picture.proofs.program.answer_asked.Goals as goal

pub returns-in-Whole : goal.returns-in-Whole
returns-in-Whole g c = λ words means.
    run_means words None (input_stream g.I.Input c.args.input.now) (input_stream g.I.Input c.answer.new.input)
    (stream g.O.Sink c.args.out.now) (stream g.O.Sink c.answer.new.out) c.answer.result
    (subst (λ asked. WordsMean words asked) c.in-Whole.is means) c.answer.ensures

pub returns-in-Near : goal.returns-in-Near
returns-in-Near g c = λ words means.
    run_means words (Some c.in-Near.focus) (input_stream g.I.Input c.args.input.now)
    (input_stream g.I.Input c.answer-in-Near.new.input) (stream g.O.Sink c.args.out.now)
    (stream g.O.Sink c.answer-in-Near.new.out) c.answer-in-Near.result
    (subst (λ asked. WordsMean words asked) c.in-Near.is means) c.answer-in-Near.ensures

pub returns-in-Wrong : goal.returns-in-Wrong
returns-in-Wrong g c = λ words means. (subst (λ asked. WordsMean words asked) c.in-Wrong.is means, refl)
