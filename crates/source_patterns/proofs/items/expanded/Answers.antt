use Rattle.std.proofs.Common.{◌≡◌, ◌∙◌, ◌+◌, ◌-◌, List, [], Vec, Global, length, drop, length-drop, subst, arith}
use Rattle.std.specs.Prelude.{IfSome, Ok, Err}
use Rattle.std.proofs.lemmas.Result.{err_from_is_err_and}
use Rattle.bp_props.specs.declared.source.Source.{Source}
use Rattle.source_patterns.specs.Answers.{ExpandGives}
use Rattle.source_patterns.specs.Items.{ItemMeans, ItemsMean}
use Rattle.source_patterns.specs.Patterns.{WalksFor}
use Rattle.source_patterns.specs.Walked.{ItemsWalk}
use Rattle.source_patterns.proofs.Gives.{if_both, stops}
use Rattle.source_patterns.proofs.Turns.{far_more, far_bad, far_failed}
use Rattle.source_patterns.proofs.items.expanded.Goals as goal

pub returns-in_err-items-clause-gives : goal.returns-in_err-items-clause-gives
returns-in_err-items-clause-gives g c =
    let dir = c.args.dir.now in
    let sources = c.args.sources.now in
    let source = c.source-item.result in
    let i = c.sources.source-index in
    let left = c.sources.left - 1 in
    let few : left ≡ length (drop (i + 1) sources) =
    omega (arith, c.sources.invariant.1, length-drop (i + 1) sources) in
    let refused = err_from_is_err_and c.from_residual.result c.from_residual.ensures.1 in
    rw (refused.1, refused.2)
    (if_both (g.D.Directories.held c.args.dirs.now) _ _ _ (λ held far given.
    stops (λ (more : List Source). more) (λ (items : Vec Source Global). items.items)
    (ItemMeans held dir c.sources.items left source) (ItemsMean held dir [] sources)
    (WalksFor dir source) (ItemsWalk held dir [] sources)
    (far_bad held dir sources i left c.sources.items source (omega arith) c.source-item.is few far)
    (far_failed held dir sources i left c.sources.items source (omega arith) c.source-item.is few far)
    c.in_err-items.field-0.0 given)
    c.sources.invariant.0
    (subst (λ o.
    IfSome o (λ held. ExpandGives (λ (more : List Source). more) (ItemMeans held dir c.sources.items left source)
    (WalksFor dir source) (Err c.in_err-items.field-0.0))) c.sources.invariant.2 c.in_err-items.ensures.gives))

pub sources-preserved : goal.sources-preserved
sources-preserved g c =
    let dir = c.args.dir.now in
    let sources = c.args.sources.now in
    let source = c.source-item.result in
    let i = c.sources.source-index in
    let left = c.sources.left - 1 in
    let few : left ≡ length (drop (i + 1) sources) =
    omega (arith, c.sources.invariant.1, length-drop (i + 1) sources) in (
      if_both (g.D.Directories.held c.args.dirs.now) _ _ _ (λ held far given.
          far_more held dir sources i left c.sources.items source (omega arith) c.source-item.is few far
          c.in_ok-items.items given)
          c.sources.invariant.0
          (subst (λ o. IfSome o (λ held. ExpandGives (λ (more : List Source). more)
          (ItemMeans held dir c.sources.items left source)
          (WalksFor dir source) (Ok c.in_ok-items.items))) c.sources.invariant.2 c.in_ok-items.ensures.gives),
      omega (arith, c.sources.invariant.1),
      c.with_item.ensures.held ∙ c.sources.invariant.2,
      omega (arith, c.sources.invariant.3, c.with_item.ensures.cause.later),
      c.with_item.ensures.kept ∙ c.sources.invariant.4,
      c.with_item.ensures.ready,
    )
