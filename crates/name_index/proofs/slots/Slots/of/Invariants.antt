use Rattle.std.proofs.Common.{◌≡◌, length, take}
use Rattle.name_index.specs.Slots.{names_of, FindsBySlots}
use Rattle.name_index.proofs.slots.Slots.of.Given as goal

-- the names so far have slots, of which there are so many
abbrev pub invariant-loop-index : goal.invariant-loop-index
invariant-loop-index l =
    FindsBySlots l.slots.mask l.slots.marks.items (names_of (take l.index l.names)) l.slots.others
    × (length l.slots.marks.items ≡ l.count)
