use Rattle.pass_core.specs.CoreKept.{state_of}
use Rattle.pass_core.proofs.CoreEnds.{all_published, outs_are}
use Rattle.pass_core.proofs.machine.Core.into_outs.Goals as goal

pub unwrapped-requires : goal.unwrapped-requires
unwrapped-requires g c =
    let f = c.self.inside in
    let done = rw (← c.self.view_is) at c.requires in
    all_published (g.V.Visit.meaning f.visitor) (g.V.Visit.takes f.visitor) f.plan f.starts.items
    (state_of f.counters.items f.claimed.items f.filled.items f.subtracted.items f.fetched.items) f.unfetched.items
    f.published.items f.steps c.self.invariant done

pub returns : goal.returns
returns g c =
    let f = c.self.inside in
    let done = rw (← c.self.view_is) at c.requires in
    rw (← c.self.view_is)
    (outs_are (g.V.Visit.meaning f.visitor) (g.V.Visit.takes f.visitor) f.plan f.starts.items
    (state_of f.counters.items f.claimed.items f.filled.items f.subtracted.items f.fetched.items) f.unfetched.items
    f.published.items f.steps c.self.invariant done
    c.in_ok-unwrapped.field-0.items c.in_ok-unwrapped.ensures)
