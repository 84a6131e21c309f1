use Rattle.std.proofs.Common.{◌≡◌, ◌<◌, ◌≤◌, ◌↔◌, ◌⊎◌, ℕ, true}
use Rattle.graph_picture.specs.Reach.{mark_at}
use Rattle.graph_picture.proofs.focus.join.Given as goal

abbrev pub invariant-loop-n : goal.invariant-loop-n
invariant-loop-n l = record {
  done : (k : ℕ) → k < l.n
      → (mark_at l.marks k ≡ true) ↔ ((mark_at l.fn.marks k ≡ true) ⊎ (mark_at l.others k ≡ true));
  later : (k : ℕ) → l.n ≤ k → mark_at l.marks k ≡ mark_at l.fn.marks k;
}
