use Rattle.std.proofs.Common.{◌≡◌, length, take}
use Rattle.visit_workers.proofs.Marking.{AreMarks}
use Rattle.visit_workers.proofs.completeness.is_each_made.Given as goal

abbrev pub invariant-loop-m : goal.invariant-loop-m
invariant-loop-m g l =
    record {
      many : length l.marks.items ≡ l.count;
      marks : AreMarks l.marks.items (take l.m-index l.made);
    }
