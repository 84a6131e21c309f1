use Rattle.std.proofs.Common.{ℕ, List, Bor, map, sym, subst}
use Rattle.std.proofs.lemmas.List.{take_all}
use Rattle.dir_entries.specs.Entries.{GiveEntries}
use Rattle.dir_entries.proofs.Given.{paths_more}
use Rattle.dir_entries.proofs.listing.given.Goals as goal

pub loop-path-preserved : goal.loop-path-preserved
loop-path-preserved c =
    subst (λ held. GiveEntries held c.args.dir.now c.add.new.entries.items)
    (sym (paths_more c.args.paths.now c.loop-path.path-index _ c.loop-path-test.true))
    (c.in_ok-add.ensures _ c.loop-path.invariant)

pub returns : goal.returns
returns c =
    subst (λ paths.
    GiveEntries (map (λ (path : Bor (List ℕ)). path.now) paths) c.args.dir.now c.loop-path.entries.items)
    (take_all c.loop-path.path-index c.args.paths.now c.loop-path-test.false) c.loop-path.invariant
