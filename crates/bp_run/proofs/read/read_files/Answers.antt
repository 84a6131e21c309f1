use Rattle.std.proofs.Common.{◌≡◌, ◌∙◌, ◌∷◌, [], ◌++◌, ap}
use Rattle.std.proofs.lemmas.Result.{err_from_is_err_and}
use Rattle.bp_run.proofs.Progress.{stopped, one_read}
use Rattle.bp_run.proofs.read.read_files.Goals as goal

pub returns-in_err-bytes-clause-gives : goal.returns-in_err-bytes-clause-gives
returns-in_err-bytes-clause-gives g c =
    let refused = err_from_is_err_and c.from_residual.result c.from_residual.ensures.1 in
    rw (refused.1, refused.2)
    (stopped _ _ c.args.paths.now c.paths.path-index c.paths.number c.paths.size c.paths.read.items c.path-item.result
    c.paths.invariant c.paths-test.true c.path-item.is c.in_err-bytes.field-0.0 c.in_err-bytes.ensures.gives)

pub paths-preserved : goal.paths-preserved
paths-preserved g c =
    let bytes = c.in_ok-bytes.bytes in
    let path = c.path-item.result in
    let more : c.keep.new.files.items ≡ c.paths.read.items ++ (path, bytes) ∷ [] = c.in_ok-keep.ensures
    ∙ ap (λ p. c.paths.read.items ++ (p, bytes) ∷ []) c.in_ok-copy.ensures in
    one_read _ _ c.args.paths.now c.paths.path-index c.paths.number c.paths.size c.paths.read.items path
    c.paths.invariant c.paths-test.true c.path-item.is bytes c.len.result (c.len.ensures ∙ bytes.ok.0) _
    c.keep.new.files.items more
    c.in_ok-bytes.ensures.short c.in_ok-bytes.ensures.bound c.in_ok-bytes.ensures.gives c.read_source.ensures.files
    c.read_source.ensures.cause.later c.read_source.ensures.writes
