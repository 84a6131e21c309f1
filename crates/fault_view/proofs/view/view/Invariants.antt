use Rattle.std.proofs.Common.{◌≡◌, ◌≤◌}
use Rattle.std.specs.Prelude.{IfSome}
use Rattle.std.specs.Option.{option_copied}
use Rattle.fault_view.proofs.Views.{Stands}
use Rattle.fault_view.proofs.view.view.Given as goal

abbrev pub invariant-loop-turn : goal.invariant-loop-turn
invariant-loop-turn g l =
    (g.S.Store.files l.store ≡ g.S.Store.files l.fn.store)
    × (g.S.Store.read_faults l.fn.store ≤ g.S.Store.read_faults l.store)
    × (g.O.Sink.faults l.fn.out ≤ g.O.Sink.faults l.out)
    × (g.I.Input.faults l.fn.input ≤ g.I.Input.faults l.input)
    × IfSome (g.I.Input.remaining l.fn.input) (λ all.
    Stands (option_copied l.fn.list) (g.S.Store.files l.fn.store) (g.S.Store.read_faults l.fn.store)
    (g.S.Store.read_faults l.store) all l.turn (g.I.Input.remaining l.input) (g.O.Sink.bytes l.fn.out)
    (g.O.Sink.bytes l.out))
