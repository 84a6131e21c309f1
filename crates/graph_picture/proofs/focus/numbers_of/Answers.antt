use Rattle.std.proofs.Common.{◌∙◌, ◌+◌, ◌<◌, ◌↔◌, ℕ, Contains, sym, subst, Vec, Global}
use Rattle.std.proofs.lemmas.Bool.{both_ways}
use Rattle.std.proofs.lemmas.Slice.Eq.{bytes_eq-Decides}
use Rattle.bp_faults.proofs.Lists.{same_bytes}
use Rattle.graph_picture.specs.Reach.{IsOf}
use Rattle.graph_picture.proofs.Focused.{numbers_more, numbers_same, numbers_all}
use Rattle.graph_picture.proofs.focus.numbers_of.Goals as goal
use Rattle.graph_picture.proofs.focus.numbers_of.Goals.{then-eq+in_ok-push, else-eq}

pub loop-n-preserved : goal.loop-n-preserved
loop-n-preserved c = λ k.
    let variants = c.args.variants.now in
    let owner = c.args.owner.now in
    let n = c.loop-n.n in
    let v = c.index-variants-n.result in
    let So : Vec ℕ Global → Type 0 = λ l. Contains l.items k ↔ ((k < n + 1) × IsOf variants owner k) in
    elim c.if-eq.branch [
      | then-eq+in_ok-push w ↦
          subst So (sym w.numbers-is)
          (numbers_more variants owner c.loop-n.numbers.items n v c.loop-n-test.true c.index-variants-n.is
          c.loop-n.invariant w.push.new.self.items w.in_ok-push.ensures.items
          (sym c.as_str.ensures ∙ same_bytes c.as_str.result.now owner (sym w.if-eq.ensures)) k)
      | else-eq w ↦
          subst So (sym w.numbers-is)
          (numbers_same variants owner c.loop-n.numbers.items n v c.loop-n-test.true c.index-variants-n.is
          c.loop-n.invariant
          (λ e. both_ways _ (sym w.if-eq.ensures)
          ((bytes_eq-Decides c.as_str.result.now owner).1 (c.as_str.ensures ∙ e))) k)
    ]

pub returns : goal.returns
returns c =
    numbers_all c.args.variants.now c.args.owner.now c.loop-n.numbers.items c.loop-n.n c.loop-n-test.false
    c.loop-n.invariant
