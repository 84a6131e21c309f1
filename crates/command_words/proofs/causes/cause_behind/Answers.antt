use Rattle.std.proofs.Common.{◌∙◌, [], sym}
use Rattle.std.proofs.lemmas.Result.{IfOk-weaker}
use Rattle.command_words.specs.Causes.{causes_at}
use Rattle.command_words.specs.Places.{places_of}
use Rattle.command_words.proofs.Finding.{first-some}
use Rattle.command_words.proofs.Joining.{said}
use Rattle.command_words.proofs.Refusing.{among_first}
use Rattle.command_words.proofs.causes.cause_behind.Goals as goal

pub returns-in-Ok : goal.returns-in-Ok
returns-in-Ok c =
    let found = rw c.in-Ok.is at c.in_ok-pairs.ensures in
    IfOk-weaker c.pairs_cause.result _ _
    (λ cause is. is
    ∙ among_first c.args.command (said c.args.words.now) c.in-Ok.pairs.items c.as_slice.result.now found.0
    found.1 c.as_slice.ensures.value) c.pairs_cause.ensures

pub returns-in-Err : goal.returns-in-Err
returns-in-Err c =
    sym (first-some (causes_at c.args.command [] (places_of c.args.command (said c.args.words.now))) _ c.in-Err.cause
    (rw c.in-Err.is at c.in_ok-pairs.ensures))
