use Rattle.std.proofs.Common.{◌≡◌, ◌∷◌, ◌++◌, ◌∙◌, ◌+◌, [], ap, sym, subst, true, false, bit_and, slice_get, slice_set}
use Rattle.name_index.specs.Slots.{is_free, FindsBySlots}
use Rattle.name_index.proofs.Found.{finds_placed, finds_learnt}
use Rattle.name_index.proofs.slots.Slots.place.Goals as goal

pub returns-then-is_free-clause-placed : goal.returns-then-is_free-clause-placed
returns-then-is_free-clause-placed c = λ names behind finds.
    let slots = c.args.self.now in
    let mark = c.args.index + 1 in
    subst (λ k. FindsBySlots slots.mask (slice_set slots.marks.items (bit_and k slots.mask) mark)
    (names ++ (c.args.name.now, c.args.number) ∷ []) slots.others)
    (sym c.requires)
    (finds_placed slots.mask slots.marks.items names slots.others finds c.args.name.now c.args.number mark
    (subst (λ k. is_free (slice_get slots.marks.items (bit_and k slots.mask)) ≡ true) c.requires
    (sym c.is_free.ensures ∙ c.if-is_free.true))
    (ap (λ i. i + 1) behind))

pub returns-in_ok-learn-clause-placed : goal.returns-in_ok-learn-clause-placed
returns-in_ok-learn-clause-placed c = λ names behind finds.
    let slots = c.args.self.now in
    finds_learnt slots.mask slots.marks.items names slots.others finds c.args.name.now c.args.number c.learn.new.self
    (subst (λ k. is_free (slice_get slots.marks.items (bit_and k slots.mask)) ≡ false) c.requires
    (sym c.is_free.ensures ∙ c.if-is_free.false))
    c.in_ok-learn.ensures.known
