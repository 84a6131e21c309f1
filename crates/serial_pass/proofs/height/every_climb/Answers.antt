use Rattle.std.proofs.Common.{◌++◌, [], ◌∷◌, ◌∙◌, ap, sym, arith}
use Rattle.std.proofs.lemmas.List.FromFn.{map-range_with_len_more}
use Rattle.serial_pass.specs.Settling.{start_at}
use Rattle.serial_pass.proofs.height.every_climb.Goals as goal

pub loop-n-preserved : goal.loop-n-preserved
loop-n-preserved c =
    c.in_ok-push.ensures.items
    ∙ ap (λ l. l ++ start_at c.loop-n.n ∷ []) c.loop-n.invariant
    ∙ sym (map-range_with_len_more start_at 0 c.loop-n.n c.loop-n.n (omega arith))
