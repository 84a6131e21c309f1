use Rattle.std.proofs.Common.{◌+◌, ◌∷◌, [], length, drop, ap, sym, ◌∙◌}
use Rattle.std.proofs.lemmas.List.{length-append}
use Rattle.std.proofs.lemmas.Iterator.Adapters.{YieldsList-from_vec}
use Rattle.std.proofs.lemmas.Iterator.Consumers.{YieldsList-turn}
use Rattle.bp_faults.proofs.Lists.{drop-here}
use Rattle.source_patterns.specs.Items.{with_matches}
use Rattle.source_patterns.proofs.given.with_matches.Goals as goal

pub loop-path-preserved : goal.loop-path-preserved
loop-path-preserved c =
    let found = c.args.found.items in
    let i = length c.loop-path.yielded in
    let road =
    YieldsList-from_vec {s = c.into_iter-path-iterator.result} found c.into_iter-path-iterator.ensures.into_iter_gives.0
    (c.into_iter-path-iterator.ensures.into_iter_gives.1 ∙ c.args.found.ok.0) in
    let turn = YieldsList-turn road c.loop-path.yielded c.loop-path.path-iterator c.loop-path.yielded_by c.next.result
    c.next.new.self c.in-Some.path c.in-Some.is c.next.ensures.steps in
    ap (λ n. with_matches c.in_ok-items.items c.args.at (drop n found))
    (length-append c.loop-path.yielded (c.in-Some.path ∷ []))
    ∙ ap (λ more. with_matches more c.args.at (drop (i + 1) found)) c.in_ok-items.ensures
    ∙ sym (ap (with_matches c.loop-path.items c.args.at) (drop-here found i c.in-Some.path turn.0 turn.1))
    ∙ c.loop-path.invariant
