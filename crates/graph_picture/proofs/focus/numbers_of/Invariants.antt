use Rattle.std.proofs.Common.{◌<◌, ◌↔◌, ℕ, Contains}
use Rattle.graph_picture.specs.Reach.{IsOf}
use Rattle.graph_picture.proofs.focus.numbers_of.Given as goal

abbrev pub invariant-loop-n : goal.invariant-loop-n
invariant-loop-n l = (k : ℕ) → Contains l.numbers.items k ↔ ((k < l.n) × IsOf l.variants l.owner k)
