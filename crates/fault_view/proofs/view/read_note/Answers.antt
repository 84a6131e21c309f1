use Rattle.std.proofs.Common.{subst, sym, string_bytes}
use Rattle.std.specs.Option.{option_copied}
use Rattle.fault_view.specs.Inside.{IsReadNote}
use Rattle.fault_view.specs.View.{Softly}
use Rattle.fault_view.proofs.view.read_note.Goals as goal

pub returns-clause-exact : goal.returns-clause-exact
returns-clause-exact g c =
    subst (λ read. Softly (g.S.Store.files c.args.store.now) (g.S.Store.read_faults c.args.store.now)
    (g.S.Store.read_faults c.note.new.store)
    (λ files. IsReadNote (option_copied c.args.list) files read (string_bytes c.in_ok-note.note)))
    (sym c.in-Some.is) c.in_ok-note.ensures.exact
