use Rattle.std.proofs.Common.{ap, refl, length}
use Rattle.pass_core.proofs.CoreEnds.{none_shown, begins_core}
use Rattle.pass_core.proofs.machine.Core.new.Goals as goal

pub invariant_of-result : goal.invariant_of-result
invariant_of-result g c =
    rw (
      c.in_ok-counters.ensures,
      c.in_ok-unfetched.ensures,
      c.in_ok-claimed.ensures,
      c.in_ok-subtracted.ensures,
      c.in_ok-fetched.ensures,
      c.in_ok-filled.ensures,
      c.in_ok-published.ensures,
      ap length c.as_slice-many.ensures,
      none_shown _ (length c.args.plan.edges),
    )
    (begins_core (g.V.Visit.meaning c.args.v) (g.V.Visit.takes c.args.v) c.args.plan c.in_ok-starts.starts.items
    c.requires.plan c.requires.free c.requires.takes c.in_ok-starts.ensures)

pub returns : goal.returns
returns g c =
    rw (
      c.in_ok-counters.ensures,
      c.in_ok-claimed.ensures,
      c.in_ok-subtracted.ensures,
      c.in_ok-fetched.ensures,
      c.in_ok-filled.ensures,
      ap length c.as_slice-many.ensures,
      none_shown _ (length c.args.plan.edges),
    ) refl
