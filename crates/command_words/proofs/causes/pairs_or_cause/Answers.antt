use Rattle.command_words.proofs.Finding.{pair_passed, place_first, place_passed}
use Rattle.command_words.proofs.causes.pairs_or_cause.Goals as goal

pub returns-in-Err : goal.returns-in-Err
returns-in-Err c =
    place_first c.args.command c.loop-rest.pairs.items c.as_slice.result.now _ c.loop-rest.rest.now _ _ c.in-Err.cause
    c.in-len2-up.len_at_least c.loop-rest.invariant.1 c.as_slice.ensures.value (rw c.in-Err.is at c.in_ok-pair.ensures)

pub loop-rest-preserved : goal.loop-rest-preserved
loop-rest-preserved c =
    let pairs = c.loop-rest.pairs.items in
    let rest = c.loop-rest.rest.now in
    let found = rw c.in-Ok.is at c.in_ok-pair.ensures in (
      pair_passed c.args.command pairs c.push.new.self.items c.in-Ok.pair _ rest _ _ c.in-len2-up.len_at_least
          c.loop-rest.invariant.0 found.0 found.1 c.in_ok-push-in-Ok.ensures.items,
      place_passed c.args.command pairs c.as_slice.result.now c.push.new.self.items c.in-Ok.pair _ rest _ _
          c.in-len2-up.len_at_least c.loop-rest.invariant.1 c.as_slice.ensures.value found.0 found.2
          c.in_ok-push-in-Ok.ensures.items,
    )
