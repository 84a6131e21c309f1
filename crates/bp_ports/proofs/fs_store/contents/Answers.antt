use Rattle.std.proofs.Common.{◌≡◌, ◌<◌, length, Some, IfSome, subst, arith}
use Rattle.bp_ports.proofs.Limits.{all_of_part}
use Rattle.bp_ports.proofs.fs_store.contents.Goals as goal

pub returns-in-Ok-2-clause-gives : goal.returns-in-Ok-2-clause-gives
returns-in-Ok-2-clause-gives g c =
    let bytes = c.read_to_end.new.buf.items in
    let short : length bytes < c.take.result.limit = omega (arith, c.read_to_end.new.buf.ok.0) in
    subst (λ r. IfSome (g.F.Read.remaining r) (λ held. Some held ≡ Some bytes)) c.take.ensures.inner
    (all_of_part _ c.take.result.limit _ bytes c.new-bytes.ensures.items c.in-Ok-2.ensures.bytes short)
