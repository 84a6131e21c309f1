use Rattle.std.proofs.Common.{◌++◌, ◌∷◌, [], sym, subst}
use Rattle.dir_entries.specs.Entries.{GiveEntries}
use Rattle.dir_entries.proofs.Given.{one_given, none_more}
use Rattle.dir_entries.proofs.listing.add.Goals as goal

pub returns-in_ok-push-in-Some : goal.returns-in_ok-push-in-Some
returns-in_ok-push-in-Some c = λ held so_far.
    subst (GiveEntries (held ++ c.args.path.now ∷ []) c.args.dir.now) (sym c.in_ok-push-in-Some.ensures.items)
    (one_given held c.args.dir.now c.args.path.now c.args.entries.now.items so_far c.in-Some.rest.now
    c.in_ok-entry_of-in-Some.field-0 c.in-Some.ensures c.in_ok-entry_of-in-Some.ensures)

pub returns-in-None : goal.returns-in-None
returns-in-None c = λ held so_far.
    none_more held c.args.dir.now c.args.path.now c.args.entries.now.items so_far c.in-None.ensures
