use Rattle.std.proofs.Common.{sym, subst}
use Rattle.std.specs.Prelude.{IfSome, Ok}
use Rattle.std.specs.FinMap.{keys}
use Rattle.path_patterns.specs.Reads.{DirGives}
use Rattle.source_patterns.specs.Listed.{kept_entries}
use Rattle.source_patterns.proofs.Listed.{if_mapped}
use Rattle.source_patterns.proofs.listings.ListingsDirectories.read.Goals as goal

pub returns-in-Ok-clause-gives : goal.returns-in-Ok-clause-gives
returns-in-Ok-clause-gives g c =
    if_mapped (g.S.Store.files c.args.self.now.store.now) keys _
    (subst (λ last. IfSome (g.S.Store.files c.args.self.now.store.now) (λ files.
    DirGives (keys files) c.args.dir.now (kept_entries c.learn.new.self.cache.now.known.entries last) (Ok tt)))
    (sym c.in-Ok.ensures) c.in_ok-learn.ensures.gives)
