use Rattle.std.proofs.Common.{◌≡◌, ◌≢◌, ◌+◌, ◌∙◌, ap, sym, subst, arith, bit_and, nat_eq, slice_get, slice_set, Some}
use Rattle.std.proofs.Common.{OnOk}
use Rattle.std.specs.Option.{unwrap_or}
use Rattle.std.proofs.lemmas.Result.{on_ok_weaker}
use Rattle.indexmap.specs.IndexSet.{insert_key}
use Rattle.serial_pass.specs.Orders.{numbers}
use Rattle.info_mutators.specs.Inside.{KnowsNoted}
use Rattle.info_mutators.specs.Kept.{if_short}
use Rattle.info_mutators.proofs.Slots.{held_there, held_by_other, other_known, other_list, free_is_new, owner_noted}
use Rattle.info_mutators.proofs.Slots.{slot_taken, numbers_with, new_is_added, noted_stays}
use Rattle.info_mutators.proofs.notes.Notes.note.Goals.{After-held_at-held}
use Rattle.info_mutators.proofs.notes.Notes.note.Goals as goal

-- what the node's slot holds, or the greatest number
is_held : (c : After-held_at-held)
    → c.held_at-held.result
    ≡ unwrap_or (slice_get c.self.inside.slots.items (bit_and c.args.node.0 c.self.inside.mask)) 18446744073709551615
is_held c =
    c.held_at-held.ensures
    ∙ ap (λ l. unwrap_or (slice_get l (bit_and c.args.node.0 c.self.inside.mask)) 18446744073709551615)
    c.deref.ensures.value

-- what is less is held by the slot itself
slot_held : (c : After-held_at-held) → c.held_at-held.result ≢ 18446744073709551615
    → slice_get c.self.inside.slots.items (bit_and c.args.node.0 c.self.inside.mask) ≡ Some c.held_at-held.result
slot_held c =
    held_there (slice_get c.self.inside.slots.items (bit_and c.args.node.0 c.self.inside.mask)) 18446744073709551615
    c.held_at-held.result (is_held c)

pub returns-then-held-mark : goal.returns-then-held-mark
returns-then-held-mark c =
    let f = c.self.inside in
    let own : slice_get f.slots.items (bit_and c.args.node.0 f.mask) ≡ Some (c.args.node.0 + 1) =
    slot_held (goal.at.returns-then-held-mark c).After-held_at-held (λ e. omega (arith, e, c.if-held-mark.true))
    ∙ ap Some c.if-held-mark.true in
    subst (λ ns. if_short ns ≡ if_short (insert_key nat_eq ns c.args.node.0)) c.self.view_is
    (ap if_short (noted_stays c.args.node.0 (numbers f.nodes.items)
    (owner_noted f.mask f.slots.items f.others.keys (numbers f.nodes.items) c.self.invariant c.args.node.0 own)))

pub invariant_of-self-then-held-eq0 : goal.invariant_of-self-then-held-eq0
invariant_of-self-then-held-eq0 c =
    let f = c.self.inside in
    let slot = bit_and c.args.node.0 f.mask in
    let free : slice_get f.slots.items slot ≡ Some 0 =
    slot_held (goal.at.invariant_of-self-then-held-eq0 c).After-held_at-held (λ e. omega (arith, e, c.if-held-eq0.true))
    ∙ ap Some c.if-held-eq0.true in
    subst (λ ns. KnowsNoted f.mask (slice_set f.slots.items slot (c.args.node.0 + 1)) f.others.keys ns)
    (sym (ap numbers c.in_ok-push.ensures.items ∙ numbers_with f.nodes.items c.args.node))
    (slot_taken f.mask f.slots.items f.others.keys (numbers f.nodes.items) c.self.invariant c.args.node.0 free)

pub returns-then-held-eq0 : goal.returns-then-held-eq0
returns-then-held-eq0 c =
    let f = c.self.inside in
    let slot = bit_and c.args.node.0 f.mask in
    let free : slice_get f.slots.items slot ≡ Some 0 =
    slot_held (goal.at.returns-then-held-eq0 c).After-held_at-held (λ e. omega (arith, e, c.if-held-eq0.true))
    ∙ ap Some c.if-held-eq0.true in
    subst (λ ns. if_short (numbers c.push.new.self.items) ≡ if_short (insert_key nat_eq ns c.args.node.0))
    c.self.view_is
    (ap if_short (ap numbers c.in_ok-push.ensures.items ∙ numbers_with f.nodes.items c.args.node
    ∙ new_is_added c.args.node.0 (numbers f.nodes.items)
    (free_is_new f.mask f.slots.items f.others.keys (numbers f.nodes.items) c.self.invariant c.args.node.0 free)))

pub invariant_of-self-2 : goal.invariant_of-self-2
invariant_of-self-2 c =
    let f = c.self.inside in
    let slot = bit_and c.args.node.0 f.mask in
    other_known f.mask f.slots.items f.others.keys f.nodes.items c.args.node c.self.invariant
    (held_by_other (slice_get f.slots.items slot) 18446744073709551615 c.held_at-held.result c.args.node.0
    (is_held (goal.at.invariant_of-self-2 c).After-held_at-held) c.if-held-eq0.false c.if-held-mark.false)
    c.note_other.new.others.keys c.note_other.new.nodes.items c.note_other.result c.note_other.ensures.noted
    c.note_other.ensures.err

pub returns : goal.returns
returns c =
    let f = c.self.inside in
    let slot = bit_and c.args.node.0 f.mask in
    let after = c.note_other.new.nodes.items in
    subst (λ ns. OnOk c.note_other.result (if_short (numbers after) ≡ if_short (insert_key nat_eq ns c.args.node.0)))
    c.self.view_is
    (on_ok_weaker c.note_other.result (λ e. ap if_short e)
    (other_list f.mask f.slots.items f.others.keys f.nodes.items c.args.node c.self.invariant
    (held_by_other (slice_get f.slots.items slot) 18446744073709551615 c.held_at-held.result c.args.node.0
    (is_held (goal.at.returns c).After-held_at-held) c.if-held-eq0.false c.if-held-mark.false)
    c.note_other.new.others.keys after c.note_other.result c.note_other.ensures.noted))
