use Rattle.std.proofs.Common.{◌≡◌, ◌+◌, ◌∙◌, true, sym, subst, arith, set, take, get_or}
use Rattle.std.specs.List.{AllByRecursion}
use Rattle.std.proofs.lemmas.List.{take_more}
use Rattle.bp_faults.proofs.Lists.{take-past}
use Rattle.visit_workers.specs.declared.made.Made.{Made}
use Rattle.visit_workers.proofs.Listing.{set_many}
use Rattle.visit_workers.proofs.Marking.{AreMarks, one_marked, all_marked}
use Rattle.visit_workers.proofs.completeness.is_each_made.Goals as goal

pub loop-m-preserved : goal.loop-m-preserved
loop-m-preserved g c = record {
  many = set_many c.loop-m.marks.items c.m-item.result.node.0 true ∙ c.loop-m.invariant.many;
  marks = subst (λ (m : Made _). AreMarks (set c.loop-m.marks.items m.node.0 true)
      (take (c.loop-m.m-index + 1) c.args.made.now)) (sym c.m-item.is)
      (subst (λ ms. AreMarks
      (set c.loop-m.marks.items (get_or c.args.made.now c.loop-m.m-index c.m-item.result).node.0 true) ms)
      (sym (take_more c.args.made.now c.loop-m.m-index c.m-item.result c.loop-m-test.true))
      (one_marked (take c.loop-m.m-index c.args.made.now)
      (get_or c.args.made.now c.loop-m.m-index c.m-item.result) c.loop-m.marks.items c.loop-m.invariant.marks));
}

pub returns : goal.returns
returns g c = λ set.
    all_marked c.args.made.now c.loop-m.marks.items c.args.count c.loop-m.invariant.many
    (subst (λ ms. AreMarks c.loop-m.marks.items ms)
    (take-past c.loop-m.m-index c.args.made.now (let b = c.loop-m-test.false in omega arith))
    c.loop-m.invariant.marks)
    (subst (λ marks. AllByRecursion (λ mark. mark ≡ true) marks) c.deref.ensures.value (c.are_set.ensures set))
