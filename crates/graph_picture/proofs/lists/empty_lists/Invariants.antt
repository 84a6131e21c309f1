use Rattle.graph_picture.specs.Growing.{AreEmpty}
use Rattle.graph_picture.proofs.lists.empty_lists.Given as goal

abbrev pub invariant-loop : goal.invariant-loop
invariant-loop l = AreEmpty l.counter l.lists.items
