use Rattle.std.proofs.Common.{◌≡◌, ◌++◌, sym}
use Rattle.std.proofs.lemmas.Result.{IfOk-at_ok}
use Rattle.ninja_write.specs.Inside.{statements_text}
use Rattle.ninja_write.proofs.Cuts.{text-joined, front-shorter, joined-shorter, part_refused, append_refused}
use Rattle.ninja_write.proofs.parts.+parts.Goals as goal

pub returns-in_err-output : goal.returns-in_err-output
returns-in_err-output g t c =
    part_refused _ _ _ _ _ _ _
    (front-shorter _ _ _ _ c.cut.ensures) c.in_err-output.was c.from_residual.ensures.1 c.join-last.ensures.second

pub returns-in_err-append : goal.returns-in_err-append
returns-in_err-append g t c =
    let before = IfOk-at_ok (λ text. text ≡ c.args.before.now ++ statements_text c.cut.result.0.statements.now)
    c.in_ok-output.was c.join-last.ensures.second.ok in
    let last : c.in_ok-last.field-0 ≡ statements_text c.cut.result.1.statements.now = IfOk-at_ok (λ text. text
    ≡ statements_text c.cut.result.1.statements.now) c.in_ok-last.was c.join-last.ensures.first.ok in
    append_refused _ _ _ c.append.new.self _ _ _ (joined-shorter _ _ _ _ _ c.cut.ensures before)
    c.from_residual-in_err-append.ensures.1 (rw (sym last) c.in_err-append.ensures)

pub returns : goal.returns
returns g t c =
    let before = IfOk-at_ok (λ text. text ≡ c.args.before.now ++ statements_text c.cut.result.0.statements.now)
    c.in_ok-output.was c.join-last.ensures.second.ok in
    let last : c.in_ok-last.field-0 ≡ statements_text c.cut.result.1.statements.now = IfOk-at_ok (λ text. text
    ≡ statements_text c.cut.result.1.statements.now) c.in_ok-last.was c.join-last.ensures.first.ok in
    let both : c.append.new.self ≡ c.in_ok-output.output ++ statements_text c.cut.result.1.statements.now =
    rw (sym last) c.in_ok-append.ensures.ok in
    record { ok = text-joined _ _ _ _ _ _ c.cut.ensures before both; too_large = λ h. cc }
