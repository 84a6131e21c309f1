use Rattle.std.proofs.Common.{◌≡◌, drop, map}
use Rattle.fault_view.proofs.Soft.{ReadsOn}
use Rattle.fault_view.proofs.files.all_names.Given as goal

abbrev pub invariant-loop-path : goal.invariant-loop-path
invariant-loop-path g l =
    (g.S.Store.files l.store ≡ g.S.Store.files l.fn.store)
    × ReadsOn (g.S.Store.files l.fn.store) (g.S.Store.read_faults l.fn.store) (g.S.Store.read_faults l.store)
    (map (λ path. path.now) l.paths) (map (λ path. path.now) (drop l.path-index l.paths)) l.names.items
