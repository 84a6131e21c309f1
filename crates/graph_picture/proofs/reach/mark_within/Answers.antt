use Rattle.std.proofs.Common.{◌≡◌, ◌∙◌, ◌+◌, ℕ, Bool, false, List, [], length, arith, sym, ap, subst, drop}
use Rattle.graph_picture.specs.Growing.{Grows, IsLevel, IsNext}
use Rattle.graph_picture.specs.Reach.{mark_at}
use Rattle.std.specs.Prelude.{Contains}
use Rattle.std.proofs.lemmas.Bool.{eqb-true}
use Rattle.std.proofs.lemmas.List.{nil_from_length}
use Rattle.graph_picture.proofs.Levels.{level_starts, level_more, level_ends, lent_back, unset}
use Rattle.graph_picture.proofs.reach.mark_within.Goals as goal

pub mark_all-requires : goal.mark_all-requires
mark_all-requires c = λ n h.
    omega (arith, c.requires.starts n h, c.deref_mut.ensures.len, c.in_ok-marks.ensures.len)

pub loop-level-init : goal.loop-level-init
loop-level-init c =
    let lists = c.args.lists.now in
    let starts = c.args.starts.now in
    let marks = c.in_ok-marks.marks in
    let lent = c.deref_mut.result.now in
    let new = c.mark_all.new.marks in
    let front = c.mark_all.new.front.items in
    let old = c.deref_mut.ensures.value ∙ c.in_ok-marks.ensures.items_if_clones_equal (λ y e. e) in
    let Free : ℕ → List Bool → Type 0 = λ n l. mark_at l n ≡ false in
    let From : List ℕ → Type 0 = λ before. Grows (Contains starts) lent before new front in
    let grown : From [] = subst From c.new-front.ensures.items c.in_ok-mark_all.ensures in
    let Level : List Bool → Type 0 = λ l. IsLevel lists starts 0 l front in
    let size : marks.len ≡ length new = omega (arith, c.mark_all.auto.marks, c.deref_mut.ensures.len) in
    subst Level (sym (lent_back marks.len new (drop (length new) marks.items) size))
    (level_starts lists starts lent new front (omega (arith, c.deref_mut.ensures.len, c.in_ok-marks.ensures.len))
    (λ n. subst (Free n) (sym old) (unset (length lists) n)) grown)

pub returns-then-is_empty : goal.returns-then-is_empty
returns-then-is_empty c =
    let front = c.loop-level.front in
    level_ends c.args.lists.now c.args.starts.now c.loop-level.level c.loop-level.marks.items front.items
    c.loop-level.invariant
    (nil_from_length front.items (omega (arith, front.ok.0, eqb-true _ _ (sym c.if-is_empty.ensures))))
    c.args.depth (let lt = c.loop-level-test.true in omega arith)

pub next_front-requires : goal.next_front-requires
next_front-requires c = λ n m h.
    let size = c.loop-level.invariant.size in
    omega (arith, c.requires.steps n m h, ap length c.deref_mut-in-loop-level.ensures.value)

pub loop-level-preserved : goal.loop-level-preserved
loop-level-preserved c =
    let lists = c.args.lists.now in
    let starts = c.args.starts.now in
    let level = c.loop-level.level in
    let marks = c.loop-level.marks in
    let front = c.loop-level.front.items in
    let new = c.next_front.new.marks in
    let next = c.in_ok-front.front.items in
    let Along : List ℕ → Type 0 = λ f. Grows (IsNext lists f) c.deref_mut-in-loop-level.result.now [] new next in
    let Of : List Bool → Type 0 = λ m. Grows (IsNext lists front) m [] new next in
    let grown : Of marks.items =
    subst Of c.deref_mut-in-loop-level.ensures.value (subst Along c.deref.ensures.value c.in_ok-front.ensures) in
    let Level : List Bool → Type 0 = λ m. IsLevel lists starts (level + 1) m next in
    let size : marks.len ≡ length new =
    omega (arith, c.next_front.auto.marks, c.deref_mut-in-loop-level.ensures.len) in
    subst Level (sym (lent_back marks.len new (drop (length new) marks.items) size))
    (level_more lists starts level marks.items front c.loop-level.invariant new next grown)
