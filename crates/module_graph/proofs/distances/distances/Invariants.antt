use Rattle.std.proofs.Common.{◌≡◌, ◌+◌, ◌<◌, ◌≤◌, length, []}
use Rattle.std.specs.List.{AllByRecursion}
use Rattle.module_graph.specs.Search.{IsGrowing, unfound}
use Rattle.module_graph.proofs.distances.distances.Given as goal

abbrev pub invariant-loop-front : goal.invariant-loop-front
invariant-loop-front l =
    IsGrowing l.plan.edges l.s l.level l.front.items 0 l.found.items []
    × (l.level + unfound l.found.items ≤ l.plan.count)
    × AllByRecursion (λ n. n < l.plan.count) l.front.items × (length l.found.items ≡ l.plan.count)

abbrev pub decreases-loop-front : goal.decreases-loop-front
decreases-loop-front l = unfound l.found.items
