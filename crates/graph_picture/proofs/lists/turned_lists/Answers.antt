use Rattle.std.proofs.Common.{◌≡◌, ◌∙◌, ◌+◌, ℕ, List, Contains, length, drop, arith, sym, ap, subst}
use Rattle.bp_faults.proofs.Lists.{same_at}
use Rattle.graph_picture.specs.Growing.{PutsBack}
use Rattle.graph_picture.proofs.Levels.{lent_back}
use Rattle.graph_picture.proofs.Turned.{IsTurning, turning_none, turning_more, turning_all}
use Rattle.graph_picture.proofs.lists.turned_lists.Goals as goal

pub loop-n-init : goal.loop-n-init
loop-n-init c = turning_none c.args.lists.now c.in_ok-back.back.items c.in_ok-back.ensures

pub put_back-requires : goal.put_back-requires
put_back-requires c = λ m h.
    let lists = c.args.lists.now in
    let n = c.loop-n.n in
    let In : List ℕ → Type 0 = λ l. Contains l m in
    let list_is = c.as_slice.ensures ∙ (c.index-lists-n.is ∙ same_at lists n _ _ c.loop-n-test.true) in
    let size = c.loop-n.invariant.size in
    omega (arith, c.requires.steps n m (subst In list_is h), ap length c.deref_mut.ensures.value)

pub loop-n-preserved : goal.loop-n-preserved
loop-n-preserved c =
    let lists = c.args.lists.now in
    let n = c.loop-n.n in
    let back = c.loop-n.back in
    let new = c.put_back.new.back in
    let list = c.as_slice.result.now in
    let list_is = c.as_slice.ensures ∙ (c.index-lists-n.is ∙ same_at lists n _ _ c.loop-n-test.true) in
    let From : List (List ℕ) → Type 0 = λ old. PutsBack n (Contains list) old new in
    let put : From back.items = subst From c.deref_mut.ensures.value c.in_ok-put_back.ensures in
    let Turning : List (List ℕ) → Type 0 = IsTurning lists (n + 1) in
    let size : back.len ≡ length new = omega (arith, c.put_back.auto.back, c.deref_mut.ensures.len) in
    subst Turning (sym (lent_back back.len new (drop (length new) back.items) size))
    (turning_more lists back.items new n list list_is c.loop-n.invariant put)

pub returns : goal.returns
returns c =
    let lists = c.args.lists.now in
    let Turning : ℕ → Type 0 = λ n. IsTurning lists n c.loop-n.back.items in
    let over = c.loop-n-test.false in
    let end : c.loop-n.n ≡ length lists = let most = c.loop-n.auto.n-end in omega arith in
    turning_all lists c.loop-n.back.items (subst Turning end c.loop-n.invariant)
