use Rattle.std.proofs.Common.{List, ℕ, Vec, Global, refl, subst}
use Rattle.std.specs.Prelude.{◌≡◌, Ok, Err}
use Rattle.std.proofs.lemmas.Option.{IfSome_then}
use Rattle.std.proofs.lemmas.Result.{err_from_is_err_and}
use Rattle.bp_props.specs.declared.source.Source.{Source}
use Rattle.path_patterns.specs.Matches.{IsWalked}
use Rattle.source_patterns.specs.Answers.{ExpandGives}
use Rattle.source_patterns.specs.Items.{items_within, with_matches, PatternMeans}
use Rattle.source_patterns.specs.Patterns.{FoundMeans, WalksFor, tail_of}
use Rattle.source_patterns.proofs.Gives.{stops, ends}
use Rattle.source_patterns.proofs.items.with_pattern.Goals as goal

pub returns-in_err-found-clause-gives : goal.returns-in_err-found-clause-gives
returns-in_err-found-clause-gives g c =
    let dir = c.args.dir.now in
    let source = c.args.source.now in
    let refused = err_from_is_err_and c.from_residual.result c.from_residual.ensures.1 in
    rw (refused.1, refused.2)
    (IfSome_then (g.D.Directories.held c.args.dirs.now) c.in_err-found.ensures.gives (λ held given.
    stops (λ (found : Vec (List ℕ) Global). found.items) (λ (more : List Source). more) (FoundMeans held dir source)
    (PatternMeans held dir c.args.items c.args.left source) (IsWalked dir (tail_of dir source)) (WalksFor dir source)
    (λ fault bad. (Err fault, bad, refl)) (λ walked walks. (c.requires.pattern, walks)) c.in_err-found.field-0.0 given))

pub returns-clause-gives : goal.returns-clause-gives
returns-clause-gives g c =
    let dir = c.args.dir.now in
    let source = c.args.source.now in
    IfSome_then (g.D.Directories.held c.args.dirs.now) c.in_ok-found.ensures.gives (λ held found.
    ends (λ (more : List Source). more) (λ (more : List Source). more)
    (λ o. items_within c.args.left source.item.at (with_matches c.args.items source.item.at c.in_ok-found.found.items)
    ≡ o)
    (PatternMeans held dir c.args.items c.args.left source) (λ walked. ⊥) (WalksFor dir source)
    (λ value within. (Ok c.in_ok-found.found.items, found, within))
    (λ fault within. (Ok c.in_ok-found.found.items, found, within))
    (λ walked none. absurd none) c.within.result
    (subst (λ list. ExpandGives (λ (more : List Source). more) (λ o. items_within c.args.left source.item.at list ≡ o)
    (λ walked. ⊥) c.within.result) c.in_ok-more.ensures c.within.ensures))
