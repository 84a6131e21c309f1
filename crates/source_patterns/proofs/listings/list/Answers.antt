use Rattle.std.specs.FinMap.{keys}
use Rattle.std.proofs.lemmas.Option.{IfSome_then}
use Rattle.source_patterns.proofs.Listed.{none_below}
use Rattle.source_patterns.proofs.listings.list.Goals as goal

pub returns-in-Err-Absent-clause-gives : goal.returns-in-Err-Absent-clause-gives
returns-in-Err-Absent-clause-gives g c =
    let given = rw c.in-Err-Absent.field-0-is at c.in-Err-Absent.ensures.gives in
    IfSome_then (g.S.Store.files c.args.store.now) given (λ files absent.
    none_below (keys files) c.args.dir.now c.new.result c.new.ensures.items absent)
