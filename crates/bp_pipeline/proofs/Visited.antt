-- The numbers of visits are below 2^32.
use Rattle.std.proofs.Common.{◌<◌, ◌^◌, ℕ, List, [], ◌∷◌, subst, sym, arith}
use Rattle.std.specs.List.{All, AllByRecursion}
use Rattle.std.proofs.lemmas.List.Elements.{All-append, All-cons, All-map, All-nil}
use Rattle.bp_faults.specs.declared.ids.NodeId.{NodeId}
use Rattle.order_text.specs.Lines.{IsVisit}
use Rattle.serial_pass.specs.declared.plan.Plan.{Plan}
use Rattle.serial_pass.specs.Orders.{numbers}
use Rattle.pass_ways.specs.Visits.{visits}
use Rattle.bp_pipeline.specs.Journals.{HasRun}

visits_of : (count pass : ℕ) → count < 2 ^ 32 → pass < 2 ^ 32 → (order : List NodeId)
    → AllByRecursion (λ n. n < count) (numbers order) → All (λ (n : NodeId). IsVisit (pass, n)) order
visits_of count pass few below [] each = All-nil (λ (n : NodeId). IsVisit (pass, n))
visits_of count pass few below (n ∷ ns) each =
    let inside = each.0 in
    All-cons (λ (m : NodeId). IsVisit (pass, m)) n ns (below, omega (arith, inside, few))
    (visits_of count pass few below ns each.1)

-- one pass more
pub visits_more : (plan : Plan) (pass : ℕ) (before after : List (ℕ × NodeId)) → plan.count < 2 ^ 32 → pass < 2 ^ 32
    → HasRun plan pass before after → All IsVisit before → All IsVisit after
visits_more plan pass before after few below run earlier =
    subst (All IsVisit) (sym run.made)
    (All-append IsVisit before (visits pass run.order) earlier
    (All-map IsVisit (λ (n : NodeId). (pass, n)) run.order
    (visits_of plan.count pass few below run.order run.legal.each_once.nodes)))
