use Rattle.std.proofs.Common.{◌≡◌, ◌∙◌, ◌↔◌, ℕ, List, Bool, Contains, Some, length, drop, sym, ap, subst, arith}
use Rattle.std.proofs.lemmas.Bool.{eqb-true}
use Rattle.std.proofs.lemmas.List.{nil_from_length}
use Rattle.graph_picture.specs.Growing.{MarkWithin, AreTurned, Joins}
use Rattle.graph_picture.specs.Reach.{IsOf, AreMarks}
use Rattle.graph_picture.proofs.Levels.{lent_back}
use Rattle.graph_picture.proofs.Focused.{none_of, starts_inside, ahead_size, ahead_inside, back_inside, joined}
use Rattle.graph_picture.proofs.focus.marks_of.Goals as goal

pub returns-then-is_empty : goal.returns-then-is_empty
returns-then-is_empty c =
    let variants = c.args.variants.now in
    let starts = c.in_ok-starts.starts in
    let Of : List ℕ → Type 0 = λ o. (k : ℕ) → Contains starts.items k ↔ IsOf variants o k in
    none_of variants c.args.focus.now starts.items (subst Of c.as_str.ensures c.in_ok-starts.ensures)
    (nil_from_length starts.items (omega (arith, starts.ok.0, eqb-true _ _ (sym c.if-is_empty.ensures))))

pub turned_lists-requires-clause-few : goal.turned_lists-requires-clause-few
turned_lists-requires-clause-few c =
    let variants = c.args.variants.now in
    let starts = c.in_ok-starts.starts.items in
    let Of : List ℕ → Type 0 = λ o. (k : ℕ) → Contains starts k ↔ IsOf variants o k in
    let of : Of c.args.focus.now.module = subst Of c.as_str.ensures c.in_ok-starts.ensures in
    let size = ahead_size variants c.args.focus.now starts of c.deref.result.now
    (c.deref.ensures.value ∙ c.in_ok-ahead.ensures) in
    omega (arith, c.requires.few)

pub turned_lists-requires-clause-steps : goal.turned_lists-requires-clause-steps
turned_lists-requires-clause-steps c =
    let variants = c.args.variants.now in
    let starts = c.in_ok-starts.starts.items in
    let Of : List ℕ → Type 0 = λ o. (k : ℕ) → Contains starts k ↔ IsOf variants o k in
    ahead_inside variants c.args.focus.now starts (subst Of c.as_str.ensures c.in_ok-starts.ensures)
    c.deref.result.now (c.deref.ensures.value ∙ c.in_ok-ahead.ensures) c.requires.ends

pub mark_within-requires-clause-steps : goal.mark_within-requires-clause-steps
mark_within-requires-clause-steps c =
    let variants = c.args.variants.now in
    let starts = c.in_ok-starts.starts.items in
    let Of : List ℕ → Type 0 = λ o. (k : ℕ) → Contains starts k ↔ IsOf variants o k in
    ahead_inside variants c.args.focus.now starts (subst Of c.as_str.ensures c.in_ok-starts.ensures)
    c.deref-2.result.now (c.deref-2.ensures.value ∙ c.in_ok-ahead.ensures) c.requires.ends

pub mark_within-requires-clause-starts : goal.mark_within-requires-clause-starts
mark_within-requires-clause-starts c = λ n h.
    let variants = c.args.variants.now in
    let focus = c.args.focus.now in
    let starts = c.in_ok-starts.starts.items in
    let Of : List ℕ → Type 0 = λ o. (k : ℕ) → Contains starts k ↔ IsOf variants o k in
    let of : Of focus.module = subst Of c.as_str.ensures c.in_ok-starts.ensures in
    let In : List ℕ → Type 0 = λ l. Contains l n in
    let size = ahead_size variants focus starts of c.deref-2.result.now
    (c.deref-2.ensures.value ∙ c.in_ok-ahead.ensures) in
    omega (arith, starts_inside variants focus starts of n (subst In c.deref-3.ensures.value h))

pub mark_within-requires-2-clause-steps : goal.mark_within-requires-2-clause-steps
mark_within-requires-2-clause-steps c =
    let variants = c.args.variants.now in
    let starts = c.in_ok-starts.starts.items in
    let Of : List ℕ → Type 0 = λ o. (k : ℕ) → Contains starts k ↔ IsOf variants o k in
    let Back : List (List ℕ) → Type 0 = λ b. AreTurned c.deref.result.now b in
    back_inside variants c.args.focus.now starts (subst Of c.as_str.ensures c.in_ok-starts.ensures)
    c.deref.result.now (c.deref.ensures.value ∙ c.in_ok-ahead.ensures) c.deref-4.result.now
    (subst Back (sym c.deref-4.ensures.value) c.in_ok-back.ensures)

pub mark_within-requires-2-clause-starts : goal.mark_within-requires-2-clause-starts
mark_within-requires-2-clause-starts c = λ n h.
    let variants = c.args.variants.now in
    let focus = c.args.focus.now in
    let starts = c.in_ok-starts.starts.items in
    let Of : List ℕ → Type 0 = λ o. (k : ℕ) → Contains starts k ↔ IsOf variants o k in
    let of : Of focus.module = subst Of c.as_str.ensures c.in_ok-starts.ensures in
    let In : List ℕ → Type 0 = λ l. Contains l n in
    let size = ahead_size variants focus starts of c.deref.result.now
    (c.deref.ensures.value ∙ c.in_ok-ahead.ensures) in
    omega (
      arith,
      starts_inside variants focus starts of n (subst In c.deref-5.ensures.value h),
      c.in_ok-back.ensures.size,
      ap length c.deref-4.ensures.value,
    )

pub returns : goal.returns
returns c =
    let variants = c.args.variants.now in
    let focus = c.args.focus.now in
    let starts = c.in_ok-starts.starts.items in
    let ahead = c.in_ok-ahead.ahead.items in
    let back = c.in_ok-back.back.items in
    let marks = c.in_ok-marks.marks in
    let others = c.in_ok-others.others.items in
    let new = c.join.new.marks in
    let Of : List ℕ → Type 0 = λ o. (k : ℕ) → Contains starts k ↔ IsOf variants o k in
    let Turned : List (List ℕ) → Type 0 = λ a. AreTurned a back in
    let On : List (List ℕ) → Type 0 = λ l. MarkWithin l c.deref-3.result.now focus.depth marks.items in
    let From : List ℕ → Type 0 = λ s. MarkWithin ahead s focus.depth marks.items in
    let On2 : List (List ℕ) → Type 0 = λ l. MarkWithin l c.deref-5.result.now focus.depth others in
    let From2 : List ℕ → Type 0 = λ s. MarkWithin back s focus.depth others in
    let Join : List Bool → Type 0 = λ o. Joins o c.deref_mut.result.now new in
    let Join2 : List Bool → Type 0 = λ m. Joins others m new in
    let Marks : List Bool → Type 0 = AreMarks variants (Some focus) in
    let size : marks.len ≡ length new = omega (arith, c.join.auto.marks, c.deref_mut.ensures.len) in
    subst Marks (sym (lent_back marks.len new (drop (length new) marks.items) size))
    (joined variants focus starts (subst Of c.as_str.ensures c.in_ok-starts.ensures) ahead c.in_ok-ahead.ensures back
    (subst Turned c.deref.ensures.value c.in_ok-back.ensures) marks.items others new
    (subst From c.deref-3.ensures.value (subst On c.deref-2.ensures.value c.in_ok-marks.ensures))
    (subst From2 c.deref-5.ensures.value (subst On2 c.deref-4.ensures.value c.in_ok-others.ensures))
    (subst Join2 c.deref_mut.ensures.value (subst Join c.deref-6.ensures.value c.join.ensures)))
