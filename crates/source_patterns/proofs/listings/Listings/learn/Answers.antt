use Rattle.std.proofs.Common.{◌∙◌, sym}
use Rattle.std.specs.FinMap.{keys}
use Rattle.std.proofs.lemmas.Option.{IfSome_then}
use Rattle.source_patterns.proofs.Gives.{if_both}
use Rattle.source_patterns.proofs.Listed.{kept_are}
use Rattle.source_patterns.proofs.listings.Listings.learn.Goals as goal

pub returns-then-is_kept-clause-gives : goal.returns-then-is_kept-clause-gives
returns-then-is_kept-clause-gives g c =
    IfSome_then (g.S.Store.files c.args.self.now.store.now) c.requires (λ files kept.
    kept_are (keys files) c.args.self.now.cache.now.known.entries c.args.dir.now
    (sym c.is_kept.ensures ∙ c.if-is_kept.true) kept)

pub returns-in-Ok-clause-kept : goal.returns-in-Ok-clause-kept
returns-in-Ok-clause-kept g c =
    if_both (g.S.Store.files c.args.self.now.store.now) _ _ _
    (λ files few kept. c.in-Ok.ensures.kept (keys files) few kept)
    c.in_ok-entries.ensures.gives c.requires

pub returns-in-Err-clause-kept : goal.returns-in-Err-clause-kept
returns-in-Err-clause-kept g c =
    if_both (g.S.Store.files c.args.self.now.store.now) _ _ _
    (λ files few kept. c.in-Err.ensures.kept (keys files) few kept)
    c.in_ok-entries.ensures.gives c.requires
