use Rattle.std.proofs.Common.{sym, subst, take, List, ℕ}
use Rattle.bp_faults.proofs.Lists.{map-take-more}
use Rattle.bp_faults.specs.declared.place.Item.{Item}
use Rattle.bp_names.specs.Meaning.{IsSetOf}
use Rattle.info_mutators.specs.Info.{item_names}
use Rattle.info_mutators.proofs.exports.names_of.Goals as goal

pub loop-item-preserved : goal.loop-item-preserved
loop-item-preserved c =
    let item = c.item-item.result in
    let items = c.args.items.now in
    let i = c.loop-item.item-index in
    subst (λ (names : List (List ℕ)). IsSetOf names c.learn.new.self)
    (sym (map-take-more (λ (item : Item). item.text) items i item c.as_str.result.now c.loop-item-test.true
    c.item-item.is c.as_str.ensures))
    (c.sets_grow_with_lists.ensures (item_names (take i items)) c.loop-item.names c.learn.new.self c.as_str.result.now
    c.loop-item.invariant c.in_ok-learn.ensures.known)
