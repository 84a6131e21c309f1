use Rattle.std.proofs.Common.{◌≡◌, not, map, take, ap, refl, ◌∙◌, take_all}
use Rattle.std.proofs.lemmas.List.{length-map}
use Rattle.bp_names.specs.Meaning.{knows}
use Rattle.ninja_file.proofs.TextSets.{IsDistinct-none, IsSetOf-more, IsDistinct-more, list_any-added, seen}
use Rattle.ninja_file.proofs.TextSets.{AllDiffer-from_IsDistinct}
use Rattle.ninja_file.proofs.listing.set_of.Goals as goal

pub returns-then-not-branch-clause-differ : goal.returns-then-not-branch-clause-differ
returns-then-not-branch-clause-differ c = (
  λ e. absurd (cc),
  λ differ. absurd (seen (map (λ t. t.now) c.args.texts.now) c.loop-text.text-index (simp length-map
      c.loop-text-test.true)
      (list_any-added c.args.texts.now c.loop-text.text-index c.loop-text.set c.in_ok-learn.field-0
      c.loop-text-test.true c.in_ok-learn.ensures.new c.loop-text.invariant.0 ∙ ap not c.if-not-branch.true) differ),
)

pub loop-text-preserved : goal.loop-text-preserved
loop-text-preserved c = (
  IsSetOf-more c.args.texts.now c.loop-text.text-index c.loop-text.set c.learn.new.self c.loop-text-test.true
      c.in_ok-learn.ensures.known c.loop-text.invariant.0,
  IsDistinct-more _ _ (simp length-map c.loop-text-test.true) c.loop-text.invariant.1
      (list_any-added c.args.texts.now c.loop-text.text-index c.loop-text.set c.in_ok-learn.field-0
      c.loop-text-test.true
      c.in_ok-learn.ensures.new c.loop-text.invariant.0 ∙ ap not c.if-not-branch.false),
)

pub loop-text-init : goal.loop-text-init
loop-text-init c = (λ q. ap (λ s. knows s q) c.new-set.ensures, IsDistinct-none)

pub returns-clause-differ : goal.returns-clause-differ
returns-clause-differ c =
    let all : take c.loop-text.text-index (map (λ t. t.now) c.args.texts.now) ≡ map (λ t. t.now) c.args.texts.now =
    take_all _ _ (simp length-map c.loop-text-test.false) in
    (λ e. AllDiffer-from_IsDistinct _ (rw all at c.loop-text.invariant.1), λ differ. refl)
