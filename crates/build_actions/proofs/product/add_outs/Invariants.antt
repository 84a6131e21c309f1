use Rattle.std.proofs.Common.{◌≡◌, ◌++◌, map, take}
use Rattle.build_actions.specs.Compiles.{outs_of_steps}
use Rattle.build_actions.proofs.product.add_outs.Given as goal

abbrev pub invariant-loop-step : goal.invariant-loop-step
invariant-loop-step l =
    map (λ t. t.now) l.list.items ≡ map (λ t. t.now) l.fn.list.items ++ outs_of_steps (take l.step-index l.steps)
