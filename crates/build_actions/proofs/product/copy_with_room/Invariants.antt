use Rattle.std.proofs.Common.{◌≡◌, take}
use Rattle.build_actions.proofs.product.copy_with_room.Given as goal

abbrev pub invariant-loop-object : goal.invariant-loop-object
invariant-loop-object l = l.copies.items ≡ take l.object-index l.objects
