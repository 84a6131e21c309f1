use Rattle.std.proofs.Common.{◌≡◌, ◌+◌, ◌<◌, ℕ, [], length, take}
use Rattle.std.specs.List.{AllByRecursion}
use Rattle.module_graph.specs.Search.{BeginWithin, IsGrowing, unfound}
use Rattle.module_graph.proofs.distances.grow.Given as goal

abbrev pub invariant-loop-n : goal.invariant-loop-n
invariant-loop-n l =
    ((s : ℕ) → IsGrowing l.plan.edges s l.level l.front 0 l.fn.found []
    → IsGrowing l.plan.edges s l.level l.front l.n-index l.found l.next.items)
    × (unfound l.found + length l.next.items ≡ unfound l.fn.found) × AllByRecursion (λ n. n < l.plan.count) l.next.items

abbrev pub invariant-loop-edge : goal.invariant-loop-edge
invariant-loop-edge l =
    ((s : ℕ) → IsGrowing l.plan.edges s l.level l.front 0 l.fn.found []
    → IsGrowing l.plan.edges s l.level l.front l.n-index l.found l.next.items
    × BeginWithin (take l.edge-index l.edge-items) l.level l.found)
    × (unfound l.found + length l.next.items ≡ unfound l.fn.found) × AllByRecursion (λ n. n < l.plan.count) l.next.items
