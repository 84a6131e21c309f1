use Rattle.bp_load.proofs.Joined.{taken_and_dropped, typed_joined}
use Rattle.bp_load.proofs.typing.+typing.Goals as goal

pub returns : goal.returns
returns g t c =
    let all = c.args.raws.items in
    let front = c.split_off.new.self.items in
    let back = c.in_ok-back.back.items in
    let cut = c.in_ok-back.ensures in
    typed_joined all front back
    (taken_and_dropped all front back c.share.result cut.items cut.tail) c.join-front.result.0
    c.join-front.result.1 c.joined.result c.join-front.ensures.first c.join-front.ensures.second c.joined.ensures
