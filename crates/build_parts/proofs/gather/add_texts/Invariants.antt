use Rattle.std.proofs.Common.{◌≡◌, ◌++◌, map, take}
use Rattle.build_parts.proofs.gather.add_texts.Given as goal

abbrev pub invariant-loop-text : goal.invariant-loop-text
invariant-loop-text l = map (λ t. t.now) l.list.items ≡ map (λ t. t.now) l.fn.list.items ++ take l.text-index l.texts
