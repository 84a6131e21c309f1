use Rattle.std.proofs.Common.{◌≡◌, ◌++◌, map, take}
use Rattle.std.specs.Arc.{arc_value}
use Rattle.std.specs.List.{flat_map}
use Rattle.build_actions.specs.declared.actions.Actions.{Actions}
use Rattle.build_actions.proofs.product.add_objects.Given as goal

abbrev pub invariant-loop-made : goal.invariant-loop-made
invariant-loop-made l =
    map (λ t. t.now) l.list.items
    ≡ map (λ t. t.now) l.fn.list.items
    ++ flat_map (λ (made : Actions). made.objects) (map arc_value (take l.made-index l.whole))
