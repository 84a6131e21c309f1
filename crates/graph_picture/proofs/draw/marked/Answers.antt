use Rattle.std.proofs.Common.{◌∙◌, ◌++◌, ℕ, true, false, List, [], ◌∷◌, Vec, Global, ap, sym, append-nil}
use Rattle.bp_faults.proofs.Lists.{same_at}
use Rattle.graph_picture.proofs.Drawings.{marked_taken}
use Rattle.graph_picture.proofs.draw.marked.Goals as goal
use Rattle.graph_picture.proofs.draw.marked.Goals.{then-mark+in_ok-push, else-mark}

pub loop-n-preserved : goal.loop-n-preserved
loop-n-preserved c =
    let marks = c.args.marks.now in
    let n = c.loop-n.n in
    let lt = c.loop-n-test.true in
    elim c.if-mark.branch [
      | then-mark+in_ok-push w ↦
          ap (λ (v : Vec ℕ Global). v.items) w.numbers-is ∙ w.in_ok-push.ensures.items
          ∙ ap (λ (l : List ℕ). l ++ n ∷ []) c.loop-n.invariant
          ∙ sym (marked_taken marks n true lt (sym w.if-mark.true ∙ same_at marks n _ _ lt))
      | else-mark w ↦
          ap (λ (v : Vec ℕ Global). v.items) w.numbers-is ∙ c.loop-n.invariant ∙ sym (append-nil _)
          ∙ sym (marked_taken marks n false lt (sym w.if-mark.false ∙ same_at marks n _ _ lt))
    ]
